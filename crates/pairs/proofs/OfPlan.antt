-- The laws, of some runs of a plan.
use Rattle.exact.proofs.Ground.{List, [], ◌∷◌, Memᴰ, mem-head, mem-not_nil, mem-of_singleton, ◌≡◌, sym, refl, ℕ}
use Rattle.exact.proofs.Ground.{◌≤◌, ◌<◌, ◌*◌, ◌^◌, le_trans, mul-le-mul, arith, pos, ℤ, nat_abs, ◌-ℤ◌, length, take, drop}
use lib.ListN.{length-take}
use Rattle.exact.specs.Lists.{product}
use Rattle.exact.proofs.Members.{take-mem}
use Rattle.exact.proofs.Numbers.{length_from, mem-from, mul-below, map-from-cong}
use Rattle.rules.specs.Plan.{Plan, plan, columns, level, entry, every_column, most_runs, highest_product}
use Rattle.plan.specs.Good.{Sound}
use Rattle.pairs.specs.Words.{score_at, pair_sum, row_sum, word, diagonal}
use Rattle.pairs.specs.Given.{Row, Part, added}
use Rattle.pairs.specs.Lists.{by_length, pair_list, row_list, diagonal_list}
use Rattle.pairs.proofs.Laws.{pair-esp, diagonal-esp, row-pairs, pair-above, word-above}
use Rattle.pairs.proofs.Bound.{BelowLevels, score-bound, diagonal-bound, pair-bound, row-bound, word_bound}
use Rattle.pairs.proofs.Columns.{so_far, level-product}
use Rattle.pairs.proofs.Totals.{by-length-row, added-first, first_part, totals}

-- ---- the lists of the answers are sums over runs

module _ (p : Plan) where
  pub pair-so-far : (f g : ℕ) → so_far (score_at (level p) (entry p) f g) (columns p) ≡ pair_list p f g
  unfolding so_far pair_list
  pair-so-far f g = map-from-cong 0 25 (λ j. sym (pair-esp (level p) (entry p) (every_column p) j f g))

  -- what the pair f, g adds to the word of length j
  abbrev pub of_pair : ℕ → ℕ → ℕ → ℤ
  of_pair f j g = pair_sum (level p) (entry p) (every_column p) j f g

  pub row-totals : (rs : List ℕ) (f : ℕ) → totals (of_pair f) rs ≡ row_list p rs f
  unfolding totals row_list
  row-totals rs f = map-from-cong 1 24 (λ j. sym (row-pairs (level p) (entry p) rs (every_column p) j f))

  -- the level of column i, less one
  abbrev pub less_one : ℕ → ℤ
  less_one i = pos (level p i) -ℤ pos 1

  pub diagonal-longer : take 24 (drop 1 (so_far less_one (columns p))) ≡ diagonal_list p
  unfolding so_far diagonal_list
  diagonal-longer = map-from-cong 1 24 (λ j. sym (diagonal-esp (level p) (every_column p) j))

  pub diagonal-by-length : diagonal_list p ≡ by_length (diagonal (level p) (every_column p))
  unfolding diagonal_list
  diagonal-by-length = refl

-- ---- how large they are

module _ (p : Plan) (rs : List ℕ) (S : Sound p rs) where
  below-levels : (f : ℕ) → Memᴰ f rs → BelowLevels (level p) (entry p) (every_column p) f
  below-levels f m i k = let q = mem-from 0 (columns p) k in S.below f m i (omega arith)

  -- some of the runs, in any order, and each of them alone
  pub sound-some : (qs : List ℕ) → length qs ≤ most_runs → ((f : ℕ) → Memᴰ f qs → Memᴰ f rs) → Sound p qs
  sound-some qs few part = record {
    columns-high = S.columns-high;
    level-low = S.level-low;
    level-high = S.level-high;
    small = S.small;
    few = few;
    numbered = λ f m. S.numbered f (part f m);
    inside = λ f m. S.inside f (part f m);
    below = λ f m. S.below f (part f m);
  }

  pub sound-run : (f : ℕ) → Memᴰ f rs → Sound p (f ∷ [])
  sound-run f m = sound-some (f ∷ []) (omega arith) (λ g n. rw (mem-of_singleton n) m)

  pub sound-take : (k : ℕ) → Sound p (take k rs)
  sound-take k = sound-some (take k rs) (omega (arith, length-take k rs, S.few)) (take-mem k rs)

  -- the levels alone
  pub sound-levels : Sound (plan p.levels []) []
  sound-levels = record {
    columns-high = S.columns-high;
    level-low = S.level-low;
    level-high = S.level-high;
    small = S.small;
    few = omega arith;
    numbered = λ f m. absurd (mem-not_nil m);
    inside = λ f m. absurd (mem-not_nil m);
    below = λ f m. absurd (mem-not_nil m);
  }

  pub row_small : (f : ℕ) → Sound p (f ∷ []) → (j : ℕ) → nat_abs (row_sum (level p) (entry p) rs (every_column p) j f) ≤ most_runs * highest_product
  row_small f F j =
      le_trans
      (row-bound (level p) (entry p) (every_column p) rs below-levels f
      (λ i k. let q = mem-from 0 (columns p) k in F.below f (mem-head refl) i (omega arith)) j)
      (rw (level-product p) (mul-below (length rs) (product p.levels) most_runs highest_product S.few S.small))

  pub word_small : (j : ℕ) → nat_abs (word (level p) (entry p) rs (every_column p) j) ≤ most_runs * (most_runs * highest_product)
  word_small j =
      le_trans (word_bound (level p) (entry p) (every_column p) rs below-levels j)
      (rw (level-product p) (mul-le-mul S.few (mul-le-mul S.few S.small)))

  -- document 01, "Sizes"
  pub word_fits : (j : ℕ) → nat_abs (word (level p) (entry p) rs (every_column p) j) * 65_536 < 2 ^ 63
  word_fits j = omega (arith, word_small j)

pub diagonal-small : (p : Plan) (rs : List ℕ) → Sound p rs → (j : ℕ) → nat_abs (diagonal (level p) (every_column p) j) ≤ highest_product
diagonal-small p rs S j =
    le_trans (diagonal-bound (level p) (every_column p) (λ i k. let q = mem-from 0 (columns p) k in S.level-low i (omega arith)) j)
    (rw (level-product p) S.small)

pub diagonal-row : (p : Plan) (rs : List ℕ) → Sound p rs → (b : ℕ) → highest_product ≤ b → Row b (diagonal_list p)
unfolding diagonal_list
diagonal-row p rs S b h = by-length-row (diagonal (level p) (every_column p)) b (λ j. omega (arith, diagonal-small p rs S j))

pub word_none : (p : Plan) (rs : List ℕ) (j : ℕ) → columns p < j → word (level p) (entry p) rs (every_column p) j ≡ pos 0
word_none p rs j h = word-above (level p) (entry p) rs (every_column p) j (rw (length_from 0 (columns p)) h)

module _ (p : Plan) (f g : ℕ) (F : Sound p (f ∷ [])) (G : Sound p (g ∷ [])) where
  pub score-below : (i : ℕ) → i < columns p → nat_abs (score_at (level p) (entry p) f g i) < level p i
  score-below i h =
      score-bound (level p i) (entry p f i) (entry p g i) (F.below f (mem-head refl) i h) (G.below g (mem-head refl) i h)

  pub pair_small : (j : ℕ) → nat_abs (pair_sum (level p) (entry p) (every_column p) j f g) ≤ highest_product
  pair_small j =
      le_trans
      (pair-bound (level p) (entry p) (every_column p) f g (below-levels p (f ∷ []) F f (mem-head refl))
      (below-levels p (g ∷ []) G g (mem-head refl)) j)
      (rw (level-product p) F.small)

-- the pair's sums for the lengths 1 to n, which is that of all columns at least
module _ (p : Plan) (f g n : ℕ) (h : columns p ≤ n) where
  none_above : (j : ℕ) → n < j → of_pair p f j g ≡ pos 0
  none_above j l = pair-above (level p) (entry p) (every_column p) j (omega (arith, length_from 0 (columns p))) f g

  pub pair-added : (row : List ℤ) → added row (take n (drop 1 (pair_list p f g))) ≡ added row (by_length (λ j. of_pair p f j g))
  unfolding pair_list
  pair-added = added-first (λ j. of_pair p f j g) n none_above

  pub pair-part : Sound p (f ∷ []) → Sound p (g ∷ []) → Part (2 ^ 61) (take n (drop 1 (pair_list p f g)))
  unfolding pair_list
  pair-part F G =
      first_part (λ j. of_pair p f j g) n none_above (2 ^ 61)
      (by-length-row (λ j. of_pair p f j g) (2 ^ 61) (λ j. omega (arith, pair_small p f g F G j)))
