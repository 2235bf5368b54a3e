-- What the routines are given: the runs' numbers in some columns, and how often each number occurs.
use Rattle.std.specs.Prelude.{◌≡◌, List, [], ◌++◌, map, ℕ, ◌*◌, ◌≤◌, length, drop, ℤ, pos, ◌*ℤ◌}
use Rattle.exact.specs.Lists.{from, sum}
use Rattle.rules.specs.Plan.{Plan, level, entry}
use Rattle.counts.specs.Numbered.{number_of}
use Rattle.parts.specs.Parts.{times}

-- a counter for each of the first w numbers
unfoldable pub tallied : ℕ → List ℕ → List ℕ
tallied w xs = map (times xs) (from 0 w)

-- counters for the combinations of a set that has no other word, at most 16 a run: all are zero
pub record Empty (rs counters : List ℕ) : Type 0 where
  pub room : 16 * length rs ≤ length counters
  pub few : length counters ≤ 4096
  pub zero : counters ≡ tallied (length counters) []

-- squared and added up
abbrev pub squares_in : List ℕ → ℤ
squares_in counts = sum counts (λ c. pos c *ℤ pos c)

-- the first are zero again
abbrev pub cleared : ℕ → List ℕ → List ℕ
cleared many counts = map (λ k. 0) (from 0 many) ++ drop many counts

-- the numbers of the combinations that the runs have in the columns
abbrev pub numbers_in : Plan → List ℕ → List ℕ → List ℕ
numbers_in p rs J = map (λ f. number_of (level p) (entry p) f J) rs
