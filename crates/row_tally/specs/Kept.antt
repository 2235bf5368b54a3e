-- Rows of sums kept by cell, 24 numbers each, from run to run; beside them a mark for each cell that has its row.
use Rattle.std.specs.Prelude.{◌≡◌, List, ◌++◌, ℕ, ◌+◌, ◌*◌, ◌≤◌, ◌<◌, length, get_or, take, drop, ℤ}
use Rattle.rules.specs.Plan.{Plan, most_columns}
use Rattle.cells.specs.Cells.{window, cell_of, pair_row}

-- the row at place c of a room of rows
abbrev pub row_at : List ℤ → ℕ → List ℤ
row_at room c = take most_columns (drop (c * most_columns) room)

-- the room with another row there
abbrev pub with_row : List ℤ → ℕ → List ℤ → List ℤ
with_row room c row = take (c * most_columns) room ++ row ++ drop (c * most_columns + most_columns) room

-- the row of each cell that is marked is that of every pair of the cell
pub record Kept (p : Plan) (known : List ℕ) (kept : List ℤ) : Type 0 where
  pub few : length known ≤ window
  pub room : length kept ≡ length known * most_columns
  pub row : (c : ℕ) → 0 < get_or known c 0 → (f g : ℕ) → cell_of p f g ≡ c → row_at kept c ≡ pair_row p f g

-- the same after more rows are kept
pub record KeptOn (p : Plan) (known : List ℕ) (known' : List ℕ) (kept' : List ℤ) : Type 0 where
  pub still : Kept p known' kept'
  pub long : length known' ≡ length known
