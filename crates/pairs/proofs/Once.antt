-- Sums over each pair of different runs once, and the turns of a loop from the last run down.
use Rattle.exact.proofs.Ground.{List, [], ◌∷◌, Memᴰ, mem-head, mem-tail, ◌≡◌, ◌∙◌, sym, ap, refl, ℕ, ◌≤◌, ◌<◌, ◌-◌, ◌+◌, ◌*◌, ◌^◌}
use Rattle.exact.proofs.Ground.{zero-le, le_trans, mul-le-mul_right, arith, ℤ, nat_abs, +ℤ_comm, length, get_or, drop}
use Rattle.exact.proofs.Ground.{length-drop, drop-length}
use Rattle.exact.specs.Lists.{sum}
use Rattle.exact.proofs.Lists.{drop-back, mem-drop}
use Rattle.exact.proofs.Numbers.{length_from, map-from-cong}
use Rattle.exact.proofs.Order.{nat_abs-+}
use Rattle.rules.specs.Plan.{Plan, runs, every_run, most_runs, highest_product}
use Rattle.plan.specs.Good.{Sound}
use Rattle.plan.proofs.Sound.{run_at}
use Rattle.pairs.specs.Given.{Row, added, once, once_list}
use Rattle.pairs.specs.Lists.{zeros, row_list}
use Rattle.pairs.proofs.Bound.{sum_bound}
use Rattle.pairs.proofs.Totals.{by-length-row, added-by-length, totals}
use Rattle.pairs.proofs.OfPlan.{of_pair, row-totals, sound-run, pair_small}

module _ (p : Plan) where
  pub once-none : once_list p [] ≡ zeros
  unfolding once_list
  once-none = refl

  -- a run more, from the last one down: its pairs with the later runs
  pub once-turn : (rs : List ℕ) (k : ℕ) → 0 < k → k ≤ length rs →
      added (once_list p (drop k rs)) (row_list p (drop k rs) (get_or rs (k - 1) 0)) ≡ once_list p (drop (k - 1) rs)
  unfolding once_list totals
  once-turn rs k h l =
      let f = get_or rs (k - 1) 0 in
      let pairs : ℕ → ℤ = λ j. sum (drop k rs) (of_pair p f j) in
      let so_far : ℕ → ℤ = λ j. once (λ f g. of_pair p f j g) (drop k rs) in
      rw (drop-back rs k 0 h l, ← (row-totals p (drop k rs) f))
      (added-by-length so_far pairs ∙ map-from-cong 1 24 (λ j. +ℤ_comm (so_far j) (pairs j)))

  -- of all runs, each by its number: before the first turn, and a turn
  pub once-begins : zeros ≡ once_list p (drop (runs p) (every_run p))
  once-begins = sym (ap (once_list p) (ap (λ n. drop n (every_run p)) (sym (length_from 0 (runs p))) ∙ drop-length (every_run p)) ∙ once-none)

  pub once_next : (f : ℕ) → 0 < f → f ≤ runs p →
      added (once_list p (drop f (every_run p))) (row_list p (drop (f - 1 + 1) (every_run p)) (f - 1)) ≡ once_list p (drop (f - 1) (every_run p))
  once_next f h l =
      let rs = every_run p in let e : f - 1 + 1 ≡ f = omega arith in
      ap (added (once_list p (drop f rs)))
      (ap (λ k. row_list p (drop k rs) (f - 1)) e ∙ ap (row_list p (drop f rs)) (sym (run_at p (f - 1) (omega arith))))
      ∙ once-turn rs f h (omega (arith, length_from 0 (runs p)))

-- ---- how large a sum over each pair of different members is
once-bound : {A : Type 0} (k : A → A → ℤ) (xs : List A) (B c : ℕ) → length xs ≤ c →
    ((x y : A) → Memᴰ x xs → Memᴰ y xs → nat_abs (k x y) ≤ B) → nat_abs (once k xs) ≤ length xs * (c * B)
once-bound k [] B c few h = zero-le
once-bound k (x ∷ xs) B c few h =
    let row = sum_bound xs (k x) B (λ y m. h x y (mem-head refl) (mem-tail m)) in
    let rest = once-bound k xs B c (omega arith) (λ y z m n. h y z (mem-tail m) (mem-tail n)) in
    let short : length xs ≤ c = omega arith in
    omega (arith, nat_abs-+ (sum xs (k x)) (once k xs), mul-le-mul_right B short)

-- each pair of different runs once, of the runs from place k on
pub once-row : (p : Plan) (rs : List ℕ) → Sound p rs → (k : ℕ) → Row (2 ^ 60) (once_list p (drop k rs))
unfolding once_list
once-row p rs S k =
    let few : length (drop k rs) ≤ most_runs = omega (arith, length-drop k rs, S.few) in
    let alone : (f : ℕ) → Memᴰ f (drop k rs) → Sound p (f ∷ []) = λ f m. sound-run p rs S f (mem-drop k rs f m) in
    by-length-row (λ j. once (λ f g. of_pair p f j g) (drop k rs)) (2 ^ 60) (λ j.
    le_trans (once-bound (λ f g. of_pair p f j g) (drop k rs) highest_product most_runs few (λ f g m n. pair_small p f g (alone f m) (alone g n) j))
    (le_trans (mul-le-mul_right (most_runs * highest_product) few) (omega arith)))
