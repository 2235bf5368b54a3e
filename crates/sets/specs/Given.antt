-- What the routines lend each other.
use Rattle.std.specs.Prelude.{◌≡◌, List, ℕ, ◌+◌, ◌*◌, ◌≤◌, get_or}
use Rattle.sets.specs.Sets.{binom}

-- the binomials of 0 to 24, row after row
abbrev pub Binomials : List ℕ → Type 0
Binomials table = (a b : ℕ) → a ≤ 24 → b ≤ 24 → get_or table (a * 25 + b) 0 ≡ binom a b
