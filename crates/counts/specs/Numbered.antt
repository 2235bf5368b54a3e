-- Document 01, "Strength, resolution, projections": the level combinations of some columns, numbered in dictionary order from 0.
use mathlib.Core.List.{List, [], ◌∷◌, map, Memᴰ}
use Rattle.std.specs.Prelude.{ℕ, ◌+◌, ◌*◌, ◌≤◌, ◌<◌, eqb, length, get_or}
use Rattle.exact.specs.Lists.{from, count, product}
use Rattle.rules.specs.Plan.{Plan, level, entry, most_runs}

-- the combinations of 4 columns of 16 levels
abbrev pub most_numbers : ℕ
most_numbers = 65_536

module _ {C : Type 0} (level : C → ℕ) where
  -- how many combinations the columns J have: the product of their levels
  abbrev pub product_of : List C → ℕ
  product_of J = product (map level J)

module _ {R C : Type 0} (level : C → ℕ) (entry : R → C → ℕ) where
  -- the number of the combination that run f has in the columns J
  abbrev pub number_of : R → List C → ℕ
  number_of f [] = 0
  number_of f (i ∷ J) = entry f i * product_of level J + number_of f J

  -- how often the combination with number k occurs
  abbrev pub tally_of : List R → List C → ℕ → ℕ
  tally_of rs J k = count (λ f. eqb (number_of f J) k) rs

-- a counter for each of the numbers 0 to 255
unfoldable pub tallies : Plan → List ℕ → List ℕ → List ℕ
tallies p rs J = map (tally_of (level p) (entry p) rs J) (from 0 most_runs)

-- some columns of a plan with these levels, in any order
pub record Columns (levels J : List ℕ) : Type 0 where
  pub inside : (i : ℕ) → Memᴰ i J → i < length levels
  pub low : (i : ℕ) → Memᴰ i J → 1 ≤ get_or levels i 0
