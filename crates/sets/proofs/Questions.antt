-- The checks of a projection, and the question's answer, both ways, by its three checks: 1, then 6, then 8.
use Rattle.exact.proofs.Ground.{false, ◌&&◌, List, [], ◌∷◌, Memᴰ, mem-head, mem-tail, ◌≡◌, ◌∙◌, refl, ℕ}
use Rattle.exact.proofs.Ground.{◌≤◌, ◌<◌, arith, eqb, T, ltb, eqb→eq, length, le-ltb, lt-ltb, ltb-false}
use Rattle.exact.specs.Lists.{outside}
use Rattle.exact.proofs.Tests.{both, neither, true-is, not-true}
use Rattle.std.specs.Prelude.{Ok, Err}
use Rattle.rules.specs.declared.Refusal.{Refusal}
use Rattle.rules.specs.Refusals.{Check, plain, accepted, answered, refusal, bad_columns, bad_size, bad_set, bad_place, is_set}
use Rattle.rules.proofs.Answered.{ok-accepted}
use Rattle.rules.proofs.Order.{passed_none, none_passed, passed-by-first}
use Rattle.rules.proofs.Ranges.{inside}
use Rattle.sets.specs.Sets.{binom, sets_of, size_checks, place_checks, set_checks, set_at, set_answer}
use Rattle.sets.proofs.Pascal.{many-sets}

-- ---- what the checks tell where they pass

module _ (m f : ℕ) where
  within : (bad_size m f).fails ≡ false → (1 ≤ f) × (f ≤ 4) × (f ≤ m)
  within e =
      let (a, b) = neither (outside 1 4 f) (ltb m f) e in let (low, high) = inside 1 4 f a in (low, high, ltb-false m f b)

  module _ {r : Refusal} where
    pub size-passed : r ≡ refusal (bad_size m f ∷ []) → r.number ≡ 0 → (1 ≤ f) × (f ≤ 4) × (f ≤ m)
    size-passed e z = within (passed_none (bad_size m f ∷ []) tt e z (bad_size m f) (mem-head refl))

    pub set-passed : (I : List ℕ) → r ≡ refusal (bad_size m f ∷ bad_set m f I ∷ []) → r.number ≡ 0 → (length I ≤ 4) × T (is_set m I)
    set-passed I e z =
        let passes = passed_none (bad_size m f ∷ bad_set m f I ∷ []) tt e z in
        let (low, high, wide) = within (passes (bad_size m f) (mem-head refl)) in
        let (n, s) = both (eqb (length I) f) (is_set m I)
        (true-is _ (not-true (eqb (length I) f && is_set m I) (passes (bad_set m f I) (mem-tail (mem-head refl))))) in
        (omega (arith, eqb→eq (length I) f n), s)

    module _ (e : r ≡ refusal (size_checks m f)) (z : r.number ≡ 0) where
      sizes : (c : Check) → Memᴰ c (size_checks m f) → c.fails ≡ false
      sizes = passed_none (size_checks m f) tt e z

      pub sizes-passed : (m ≤ 24) × (f ≤ 4) × (f ≤ m)
      sizes-passed =
          let (low, high, wide) = within (sizes (bad_size m f) (mem-tail (mem-head refl))) in
          ((inside 1 24 m (sizes (bad_columns m) (mem-head refl))).1, high, wide)

      sizes-accepted : r ≡ accepted
      sizes-accepted = e ∙ none_passed (size_checks m f) tt sizes

-- ---- past the checks of m and f

module _ (m f : ℕ) {A : Type 0} (x : A) {y : A} (w : Ok y ≡ answered (refusal (size_checks m f)) x) where
  accepted-sizes : (refusal (size_checks m f)).number ≡ 0
  accepted-sizes = ok-accepted (refusal (size_checks m f)) x w

  pub sizes-within : (m ≤ 24) × (f ≤ 4) × (f ≤ m)
  sizes-within = sizes-passed m f refl accepted-sizes

  -- those of f and the columns are the rest
  pub place-rest : (I : List ℕ) → refusal (place_checks m f I) ≡ refusal (bad_size m f ∷ bad_set m f I ∷ [])
  place-rest I =
      let e = passed_none (size_checks m f) tt refl accepted-sizes (bad_size m f) (mem-tail (mem-head refl)) in
      passed-by-first (size_checks m f) (bad_set m f I ∷ []) tt refl accepted-sizes ∙ rw e

  -- that of the place is the rest
  module _ (k : ℕ) where
    set-rest : refusal (set_checks m f k) ≡ refusal (bad_place (length (sets_of m f)) k ∷ [])
    set-rest = passed-by-first (size_checks m f) (bad_place (length (sets_of m f)) k ∷ []) tt refl accepted-sizes

    pub set_past : binom m f ≤ k → Err (plain 8) ≡ set_answer m f k
    unfolding set_answer
    set_past l = rw (set-rest, many-sets f 0 m, le-ltb k (binom m f) l)

    pub set_found : k < binom m f → Ok (set_at m f k) ≡ set_answer m f k
    unfolding set_answer
    set_found l = rw (set-rest, many-sets f 0 m, lt-ltb k (binom m f) l)
