-- Counters for numbers below a size, and their squares.
use mathlib.Core.List.{List, [], ◌∷◌, map, Memᴰ}
use Rattle.std.specs.Prelude.{ℕ, ◌+◌, ◌*◌, ◌≤◌, ◌<◌, length}
use Rattle.exact.specs.Lists.{from}
use Rattle.rules.specs.Plan.{most_runs}
use Rattle.parts.specs.Parts.{times}

-- how often each number below `size` is among the numbers
unfoldable pub counters_of : ℕ → List ℕ → List ℕ
counters_of size xs = map (times xs) (from 0 size)

-- the counts, squared and added up
abbrev pub squared_sum : List ℕ → ℕ
squared_sum [] = 0
squared_sum (c ∷ cs) = c * c + squared_sum cs

-- numbers below `size`, at most one for each run
pub record Numbers (size : ℕ) (xs : List ℕ) : Type 0 where
  pub few : length xs ≤ most_runs
  pub below : (x : ℕ) → Memᴰ x xs → x < size
