-- What the routines behind a call are given, and what they make of it.
use Rattle.std.specs.Prelude.{◌≡◌, Bool, true, false, not, List, map, ℕ, ◌<◌, ℤ, pos, negsuc, ◌+ℤ◌, ◌*ℤ◌, get_or}
use Rattle.exact.specs.Lists.{from}
use Rattle.rules.specs.Plan.{most_columns}
use Rattle.held.specs.Held.{IsHeld}
use Rattle.held.specs.declared.Held.{Held}

-- a call that changes the mark of run f to b
pub record Changes (h : Held) (f : ℕ) (b : Bool) : Type 0 where
  pub held : IsHeld h
  pub there : f < h.runs
  pub mark : get_or h.marks f false ≡ not b

-- twice the row sum is taken off the words at a strike, and added at a reinstatement
abbrev pub factor_of : Bool → ℤ
factor_of true = pos 2
factor_of false = negsuc 1

-- place k of the words with so many times the row sums, and the diagonal
abbrev pub changed_at : ℤ → List ℤ → List ℤ → List ℤ → ℕ → ℤ
changed_at factor words row diagonal k = get_or words k (pos 0) +ℤ factor *ℤ get_or row k (pos 0) +ℤ get_or diagonal k (pos 0)

unfoldable pub changed : ℤ → List ℤ → List ℤ → List ℤ → List ℤ
changed factor words row diagonal = map (changed_at factor words row diagonal) (from 0 most_columns)
