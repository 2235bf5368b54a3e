-- The columns of several levels, one after the other.
use Rattle.exact.proofs.Ground.{true, false, Bool, cond, List, [], ◌∷◌, ◌++◌, append-nil, ◌≡◌, ◌∙◌, sym, ap, ℕ, ◌≤◌, ◌<◌, ◌+◌, zero-add, arith}
use Rattle.exact.proofs.Ground.{ltb, length, get_or, le-ltb, lt-ltb}
use Rattle.exact.specs.Lists.{from, keep}
use Rattle.exact.proofs.Numbers.{length_from, from-snoc}
use Rattle.exact.proofs.Lists.{keep-++, keep-most}
use Rattle.rules.specs.Plan.{Plan, plan, columns, level, every_column, several, most_columns}
use Rattle.sets.proofs.Parts.{Part, part-kept}

pub several-part : (p : Plan) → Part (several (level p) (every_column p)) (every_column p)
several-part p = part-kept (λ i. ltb 1 (level p i)) (every_column p)

pub several-few : (p : Plan) → columns p ≤ most_columns → length (several (level p) (every_column p)) ≤ most_columns
several-few p h = omega (arith, h, keep-most (λ i. ltb 1 (level p i)) (every_column p), length_from 0 (columns p))

module _ (levels : List ℕ) where
  -- those among the first i columns
  abbrev pub several_to : ℕ → List ℕ
  several_to i = several (level (plan levels [])) (from 0 i)

  several-more : (i : ℕ) (b : Bool) → ltb 1 (get_or levels i 0) ≡ b → several_to (i + 1) ≡ several_to i ++ cond b (i ∷ []) []
  several-more i b e =
      let test : ℕ → Bool = λ i. ltb 1 (get_or levels i 0) in
      ap (keep test) (from-snoc 0 i)
      ∙ keep-++ test (from 0 i) ((0 + i) ∷ [])
      ∙ rw (zero-add i, e)

  module _ (i : ℕ) where
    pub several-room : length (several_to i) ≤ i
    several-room = omega (arith, keep-most (λ i. ltb 1 (get_or levels i 0)) (from 0 i), length_from 0 i)

    pub walk-several : 1 < get_or levels i 0 → several_to i ++ i ∷ [] ≡ several_to (i + 1)
    walk-several l = sym (several-more i true (lt-ltb 1 (get_or levels i 0) l))

    pub walk-one : get_or levels i 0 ≤ 1 → several_to i ≡ several_to (i + 1)
    walk-one l = sym (several-more i false (le-ltb 1 (get_or levels i 0) l) ∙ append-nil (several_to i))
