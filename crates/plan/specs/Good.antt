-- Document 01, "Sizes": an accepted plan, and what the routines over some of its runs are given.
use Rattle.std.specs.Prelude.{◌≡◌, ℕ, ◌+◌, ◌*◌, ◌≤◌, ◌<◌, length}
use mathlib.Core.List.{List, Memᴰ}
use Rattle.exact.specs.Lists.{product}
use Rattle.rules.specs.Plan.{Plan, columns, runs, level, entry}
use Rattle.rules.specs.Plan.{most_columns, most_runs, lowest_level, highest_level, highest_product}

-- an accepted plan
pub record Good (p : Plan) : Type 0 where
  pub columns-low : 1 ≤ columns p
  pub columns-high : columns p ≤ most_columns
  pub level-low : (i : ℕ) → i < columns p → lowest_level ≤ level p i
  pub level-high : (i : ℕ) → i < columns p → level p i ≤ highest_level
  pub small : product p.levels ≤ highest_product
  pub size : length p.table ≡ runs p * columns p
  pub runs-low : 1 ≤ runs p
  pub runs-high : runs p ≤ most_runs
  pub below : (f i : ℕ) → f < runs p → i < columns p → entry p f i < level p i

-- some runs of a plan, in any order: each lies in the table and has its entries below their levels
pub record Sound (p : Plan) (rs : List ℕ) : Type 0 where
  pub columns-high : columns p ≤ most_columns
  pub level-low : (i : ℕ) → i < columns p → 1 ≤ level p i
  pub level-high : (i : ℕ) → i < columns p → level p i ≤ highest_level
  pub small : product p.levels ≤ highest_product
  pub few : length rs ≤ most_runs
  pub numbered : (f : ℕ) → Memᴰ f rs → f < most_runs
  pub inside : (f : ℕ) → Memᴰ f rs → f * columns p + columns p ≤ length p.table
  pub below : (f : ℕ) → Memᴰ f rs → (i : ℕ) → i < columns p → entry p f i < level p i
