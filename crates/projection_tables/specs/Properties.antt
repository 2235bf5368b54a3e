-- What a table is, said without the sort that makes it.
use Rattle.std.specs.Prelude.{◌≡◌, ℕ, ◌+◌, ◌≤◌, length}
use mathlib.Core.List.{List, [], ◌∷◌, map, Memᴰ}
use Rattle.exact.specs.Fractions.{smaller_fraction}
use Rattle.exact.specs.declared.fractions.Fraction.{Fraction}
use Rattle.exact.specs.declared.fractions.Verdict.TheVariants.{Better, Equal}
use Rattle.projection_tables.specs.Tables.{Line, times}

-- x is smaller than each of the values
abbrev pub Below : Fraction → List Fraction → Type 0
Below x ys = (y : Fraction) → Memᴰ y ys → smaller_fraction x y ≡ Better

-- each value is smaller than every later one
abbrev pub Rising : List Fraction → Type 0
Rising [] = Unit {0}
Rising (x ∷ xs) = Below x xs × Rising xs

-- how many sets the lines count in all
abbrev pub counted_in : List Line → ℕ
counted_in [] = 0
counted_in (l ∷ ls) = l.sets + counted_in ls

-- the lines of a table of the values: strictly rising, none made up, none lost, each with its count, every set counted
pub record IsTable (vs : List Fraction) (ls : List Line) : Type 0 where
  pub rising : Rising (map (λ l. l.value) ls)
  pub occurs : (l : Line) → Memᴰ l ls → Memᴰ l.value vs
  pub complete : (x : Fraction) → Memᴰ x vs → (l : Line) × Memᴰ l ls × (smaller_fraction l.value x ≡ Equal)
  pub counts : (l : Line) → Memᴰ l ls → l.sets ≡ times vs l.value
  pub counted : counted_in ls ≡ length vs
  pub fewer : length ls ≤ length vs
