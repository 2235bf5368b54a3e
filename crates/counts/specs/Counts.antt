-- Document 01, "Strength, resolution, projections": strength, found from counts.
use Rattle.std.specs.Prelude.{Bool, true, false, ◌&&◌, List, [], ◌∷◌, map, ℕ, eqb, length, Result}
use Rattle.exact.specs.Lists.{from, each, all, alike, count, largest}
use Rattle.rules.specs.Plan.{Plan, level, entry, every_column}
use Rattle.rules.specs.declared.Refusal.{Refusal}
use Rattle.rules.specs.Refusals.{Check, refusal, answered}
use Rattle.sets.specs.Sets.{choose}

module _ {C : Type 0} (level : C → ℕ) where
  -- the level combinations of the columns J, in dictionary order
  abbrev pub combinations : List C → List (List ℕ)
  combinations [] = [] ∷ []
  combinations (i ∷ J) = each (from 0 (level i)) (λ a. map (λ P. a ∷ P) (combinations J))

module _ {R C : Type 0} (entry : R → C → ℕ) where
  -- whether run f has the combination P in the columns J
  abbrev pub shows : R → List C → List ℕ → Bool
  shows f [] P = true
  shows f (i ∷ J) [] = false
  shows f (i ∷ J) (a ∷ P) = eqb (entry f i) a && shows f J P

  -- how often P occurs in the columns J
  abbrev pub tally : List R → List C → List ℕ → ℕ
  tally rs J P = count (λ f. shows f J P) rs

module _ {R C : Type 0} (level : C → ℕ) (entry : R → C → ℕ) (rs : List R) where
  -- whether all level combinations of the columns J occur equally often
  unfoldable pub even : List C → Bool
  even J = alike (map (tally entry rs J) (combinations level J))

  -- whether that is so in every choice of t columns
  unfoldable pub balanced : List C → ℕ → Bool
  balanced cols t = all (choose t cols) even

  -- the strength: the largest such t from 0 to m (t = 0 always is one)
  unfoldable pub strength : List C → ℕ
  strength cols = largest (balanced cols) (length cols)

-- of the runs rs of a plan
module _ (p : Plan) (rs : List ℕ) where
  -- the strength of all columns, or the refusal
  unfoldable pub strength_answer : (List Check → List Check) → Result ℕ Refusal
  strength_answer start = answered (refusal (start [])) (strength (level p) (entry p) rs (every_column p))
