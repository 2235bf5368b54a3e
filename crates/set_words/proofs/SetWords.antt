-- W(I) of some runs, each pair of different runs once and counted double: how large it is, and the turns of two loops over the runs.
use Rattle.exact.proofs.Ground.{List, [], Memᴰ, ◌≡◌, sym, ℕ, ◌≤◌, ◌<◌, ◌*◌, le_trans, arith, pos, nat_abs, ◌*ℤ◌, ◌+ℤ◌, length, get_or}
use Rattle.exact.proofs.Ground.{◌∷◌, refl, ◌+◌, drop, length-drop, take, take-suc, take_all, le_refl, append-nil, add-one, +ℤ_idr, ◌≤ℤ◌}
use lib.ListN.{length-take}
use Rattle.exact.specs.Lists.{sum}
use Rattle.exact.proofs.Members.{take-mem}
use Rattle.exact.proofs.Lists.{mem-drop}
use Rattle.exact.proofs.Numbers.{mul-below}
use Rattle.exact.proofs.Sums.{prod-cong, sum-++}
use Rattle.rules.specs.Plan.{Plan, columns, level, entry, most_runs, most_columns, highest_product}
use Rattle.plan.specs.Good.{Sound}
use Rattle.words.specs.Words.{word_of}
use Rattle.words.proofs.Bound.{sum_bound}
use Rattle.words.proofs.Positive.{word_of-nonneg}
use Rattle.words.proofs.Laws.{score-sym, total-with}
use Rattle.counts.specs.Numbered.{Columns}
use Rattle.set_words.specs.Given.{Projection, Starts, pair_of}
use Rattle.set_words.proofs.Products.{product_small}

module _ (p : Plan) (rs I : List ℕ) (S : Sound p rs) (P : Projection p I) where
  pub run-starts : (f : ℕ) → Memᴰ f rs → Starts p I (f * columns p)
  run-starts f m = record {
    inside = λ i k. omega (arith, S.inside f m, P.inside i k);
    below = λ i k. S.below f m i (P.inside i k);
  }

  -- as columns that combinations are counted in
  pub counted-columns : Columns p.levels I
  counted-columns = record { inside = P.inside; low = λ i m. S.level-low i (P.inside i m) }

  pub start_small : (f : ℕ) → Memᴰ f rs → f * columns p ≤ most_runs * most_columns
  start_small f m = mul-below f (columns p) most_runs most_columns (omega (arith, S.numbered f m)) S.columns-high

  pub pair_small : (f g : ℕ) → Memᴰ f rs → Memᴰ g rs → nat_abs (pair_of p I f g) ≤ highest_product
  pair_small f g m n =
      rw (take_all (length I) I (le_refl (length I))) at
      (product_small p I P (f * columns p) (g * columns p) (run-starts f m) (run-starts g n) (length I))

  -- of run f with some of the runs
  row-within : (f : ℕ) → Memᴰ f rs → (qs : List ℕ) → ((g : ℕ) → Memᴰ g qs → Memᴰ g rs) → length qs ≤ most_runs →
      nat_abs (sum qs (pair_of p I f)) ≤ most_runs * highest_product
  row-within f m qs among few =
      le_trans (sum_bound qs (pair_of p I f) highest_product (λ g n. pair_small f g m (among g n)))
      (mul-below (length qs) highest_product most_runs highest_product few (omega arith))

  few : (k : ℕ) → length (take k rs) ≤ most_runs
  few k = simp length-take (omega (arith, S.few))

  -- with the first k runs
  pub row_small : (f : ℕ) → Memᴰ f rs → (k : ℕ) → nat_abs (sum (take k rs) (pair_of p I f)) ≤ most_runs * highest_product
  row_small f m k = row-within f m (take k rs) (take-mem k rs) (few k)

  pub row-turn : (f k : ℕ) → k < length rs →
      sum (take k rs) (pair_of p I f) +ℤ pair_of p I f (get_or rs k 0) ≡ sum (take (k + 1) rs) (pair_of p I f)
  row-turn f k h =
      rw (add-one, take-suc rs k 0, sum-++ (take k rs) (get_or rs k 0 ∷ []) (pair_of p I f), +ℤ_idr (pair_of p I f (get_or rs k 0))) refl

  -- of some of the runs
  word-within : (qs : List ℕ) → ((g : ℕ) → Memᴰ g qs → Memᴰ g rs) → length qs ≤ most_runs →
      nat_abs (word_of (level p) (entry p) qs I) ≤ most_runs * (most_runs * highest_product)
  unfolding word_of
  word-within qs among few =
      le_trans (sum_bound qs (λ f. sum qs (pair_of p I f)) (most_runs * highest_product) (λ f m. row-within f (among f m) qs among few))
      (mul-below (length qs) (most_runs * highest_product) most_runs (most_runs * highest_product) few (omega arith))

  -- of the first k runs, and of the runs from place k on
  pub word_taken : (k : ℕ) → nat_abs (word_of (level p) (entry p) (take k rs) I) ≤ most_runs * (most_runs * highest_product)
  word_taken k = word-within (take k rs) (take-mem k rs) (few k)

  pub word_small : (k : ℕ) → nat_abs (word_of (level p) (entry p) (drop k rs) I) ≤ most_runs * (most_runs * highest_product)
  word_small k = word-within (drop k rs) (mem-drop k rs) (omega (arith, length-drop k rs, S.few))

  -- a run more: its pairs with the earlier runs counted double, and the pair with itself
  pub word-turn : (k : ℕ) → k < length rs →
      let f = get_or rs k 0 in
      word_of (level p) (entry p) (take k rs) I +ℤ pos 2 *ℤ sum (take k rs) (pair_of p I f) +ℤ pair_of p I f f
      ≡ word_of (level p) (entry p) (take (k + 1) rs) I
  unfolding word_of
  word-turn k h =
      let more = total-with (pair_of p I) (λ f g. prod-cong I (λ i. score-sym (level p i) (entry p f i) (entry p g i))) (take k rs) (get_or rs k 0) [] in
      rw (add-one, take-suc rs k 0) (sym (rw (append-nil (take k rs)) at more))

  pub word-nonneg : pos 0 ≤ℤ word_of (level p) (entry p) rs I
  word-nonneg =
      word_of-nonneg (level p) (entry p) rs I
      (λ i m. (S.level-low i (P.inside i m), λ f n. S.below f n i (P.inside i m)))
