-- What the laws on words ask of levels and entries: a level is at least 1, and an entry is below its level.
use mathlib.Core.List.{List, Memᴰ}
use Rattle.std.specs.Prelude.{ℕ, ◌<◌}

module _ {R C : Type 0} (level : C → ℕ) (entry : R → C → ℕ) (runs : List R) where
  -- the entries of column i are below its level
  abbrev pub Below : C → Type 0
  Below i = (0 < level i) × ((f : R) → Memᴰ f runs → entry f i < level i)

  -- so they are in every column of I
  abbrev pub AllBelow : List C → Type 0
  AllBelow I = (i : C) → Memᴰ i I → Below i
