-- What the parts of the check are given.
use Rattle.std.specs.Prelude.{List, ℕ, ◌≤◌, ◌<◌, length, get_or}

-- no level is 0
pub record FromOne (levels : List ℕ) : Type 0 where
  pub from_one : (i : ℕ) → i < length levels → 1 ≤ get_or levels i 0
