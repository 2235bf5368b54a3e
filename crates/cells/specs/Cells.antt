-- The cell of a pair of runs: how many columns of each level agree, as one number, a digit for each level.
use Rattle.std.specs.Prelude.{◌≡◌, Bool, true, false, List, [], ◌∷◌, ℕ, zero, suc, ◌+◌, ◌*◌, ◌<◌, min, eqb, ℤ, get_or}
use Rattle.exact.specs.Lists.{count}
use Rattle.rules.specs.Plan.{Plan, columns, level, entry, every_column}
use Rattle.pairs.specs.Words.{pair_sum}
use Rattle.pairs.specs.Lists.{by_length}

-- strides stop here, so that a cell fits 16 bits: 24 columns add up to 24 * 2,560 at most. A cell below tells every digit, one above none
abbrev pub window : ℕ
window = 2_560

abbrev pub bit : Bool → ℕ
bit true = 1
bit false = 0

module _ {A : Type 0} where
  -- the sum of natural numbers over the list
  abbrev pub sumℕ : List A → (A → ℕ) → ℕ
  sumℕ [] f = 0
  sumℕ (x ∷ xs) f = f x + sumℕ xs f

module _ {C : Type 0} (level : C → ℕ) (cols : List C) where
  -- how many columns have level s
  unfoldable pub members : ℕ → ℕ
  members s = count (λ i. eqb s (level i)) cols

  -- what a column of level s that agrees adds to the cell: one more than all columns of lower levels may add, and no more than the window
  unfoldable pub stride : ℕ → ℕ
  stride zero = 1
  stride (suc s) = min window (stride s * (members s + 1))

  -- the cell, where a tells which columns agree
  unfoldable pub cell : (C → Bool) → ℕ
  cell a = sumℕ cols (λ i. stride (level i) * bit (a i))

module _ (p : Plan) where
  -- whether the runs f and g agree in column i
  abbrev pub agrees : ℕ → ℕ → ℕ → Bool
  agrees f g i = eqb (entry p f i) (entry p g i)

  abbrev pub stride_of : ℕ → ℕ
  stride_of i = stride (level p) (every_column p) (level p i)

  unfoldable pub cell_of : ℕ → ℕ → ℕ
  cell_of f g = cell (level p) (every_column p) (agrees f g)

-- the stride of each column
pub record Strides (p : Plan) (strides : List ℕ) : Type 0 where
  pub at : (i : ℕ) → i < columns p → get_or strides i 0 ≡ stride_of p i

-- what the pair f, g adds to the words, from length 1 on
unfoldable pub pair_row : Plan → ℕ → ℕ → List ℤ
pair_row p f g = by_length (λ j. pair_sum (level p) (entry p) (every_column p) j f g)
