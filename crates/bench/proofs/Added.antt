-- The words of the sets of f columns, set after set: how large their sum is, and that of all is the word of length f.
use Rattle.exact.proofs.Ground.{List, [], ◌∷◌, ◌≡◌, ◌∙◌, sym, ap, ap₂, ℕ, ◌≤◌, ◌<◌, ◌+◌, ◌*◌, zero-add}
use Rattle.exact.proofs.Ground.{le_trans, arith, ℤ, nat_abs, ◌+ℤ◌, +ℤ_idr, length}
use Rattle.exact.specs.Lists.{from, sum}
use Rattle.exact.proofs.Numbers.{length_from, mem-from, from-snoc, mul-below}
use Rattle.exact.proofs.Sums.{sum-++, sum-map}
use Rattle.rules.specs.Plan.{Plan, columns, level, entry, every_column, most_runs, highest_product}
use Rattle.sets.specs.Sets.{binom, set_at}
use Rattle.sets.proofs.Rising.{set-part}
use Rattle.sets.proofs.Places.{set-at-set, every_set}
use Rattle.plan.specs.Good.{Sound}
use Rattle.words.specs.Words.{word_of, word}
use Rattle.words.proofs.Bound.{sum_bound}
use Rattle.set_words.specs.Given.{Projection, SizeOf}
use Rattle.set_words.proofs.Products.{part-projection}
use Rattle.set_words.proofs.SetWords.{word_small}
use Rattle.projection_tables.proofs.Walks.{few-sets}

module _ (p : Plan) (rs : List ℕ) (f : ℕ) (S : Sound p rs) (z : SizeOf (columns p) f) where
  abbrev pub set_word : ℕ → ℤ
  set_word k = word_of (level p) (entry p) rs (set_at (columns p) f k)

  -- the words of the sets before place k
  abbrev pub added : ℕ → ℤ
  added k = sum (from 0 k) set_word

  pub place-projection : (k : ℕ) → k < binom (columns p) f → Projection p (set_at (columns p) f k)
  place-projection k h =
      part-projection p S.level-low S.small (set_at (columns p) f k)
      (set-part (columns p) (set_at (columns p) f k) (set-at-set (columns p) f k h).0)

  pub place-few : (k : ℕ) → k < binom (columns p) f → length (set_at (columns p) f k) ≤ 4
  place-few k h = omega (arith, (set-at-set (columns p) f k h).1, z.high)

  added_next : (k : ℕ) → added k +ℤ set_word k ≡ added (k + 1)
  added_next k =
      sym (ap (λ l. sum l set_word) (from-snoc 0 k) ∙ sum-++ (from 0 k) ((0 + k) ∷ []) set_word
      ∙ ap (λ z. added k +ℤ z) (+ℤ_idr (set_word (0 + k)) ∙ ap set_word (zero-add k)))

  -- the words so far and the next one
  pub added-next : (k : ℕ) {x y : ℤ} → x ≡ added k → y ≡ set_word k → x +ℤ y ≡ added (k + 1)
  added-next k e f = ap₂ (λ x y. x +ℤ y) e f ∙ added_next k

  pub added-small : (k : ℕ) → k ≤ binom (columns p) f → nat_abs (added k) ≤ 10_626 * (most_runs * (most_runs * highest_product))
  added-small k h =
      le_trans
      (sum_bound (from 0 k) set_word (most_runs * (most_runs * highest_product)) (λ j m.
      word_small p rs (set_at (columns p) f j) S (place-projection j (omega (arith, mem-from 0 k m))) 0))
      (mul-below (length (from 0 k)) (most_runs * (most_runs * highest_product)) 10_626 (most_runs * (most_runs * highest_product))
      (omega (arith, length_from 0 k, few-sets (columns p) f S.columns-high z)) (omega arith))

  pub added-all : added (binom (columns p) f) ≡ word (level p) (entry p) rs (every_column p) f
  unfolding word
  added-all =
      sym (sum-map (λ k. set_at (columns p) f k) (from 0 (binom (columns p) f)) (word_of (level p) (entry p) rs))
      ∙ ap (λ l. sum l (word_of (level p) (entry p) rs)) (every_set (columns p) f)
