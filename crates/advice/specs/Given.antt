-- What the advice is given: runs of a plan, in number order.
use mathlib.Core.List.{List, [], ◌∷◌, Memᴰ}
use Rattle.std.specs.Prelude.{ℕ, ◌<◌}
use Rattle.rules.specs.Plan.{Plan}
use Rattle.plan.specs.Good.{Sound}

-- each number is below all that come after it
abbrev pub Rising : List ℕ → Type 0
Rising [] = Unit {0}
Rising (x ∷ xs) = ((y : ℕ) → Memᴰ y xs → x < y) × Rising xs

-- the runs that stand
pub record Standing (p : Plan) (rs : List ℕ) : Type 0 where
  pub sound : Sound p rs
  pub rising : Rising rs
