-- What the routines over some runs of a plan are given.
use mathlib.Core.List.{List, Memᴰ, map}
use Rattle.std.specs.Prelude.{ℕ, ◌+◌, ◌*◌, ◌≤◌, ◌<◌, length, get_or, ℤ, nat_abs}
use Rattle.exact.specs.Lists.{prod, product}
use Rattle.exact.specs.Fractions.{reduced}
use Rattle.exact.specs.declared.fractions.Fraction.{Fraction}
use Rattle.rules.specs.Plan.{Plan, columns, level, entry, highest_product}
use Rattle.plan.specs.Good.{Sound}
use Rattle.words.specs.Words.{score, score_at, word_of}

-- columns of a plan whose levels' product is within its limit, as that of every set of columns is
pub record Projection (p : Plan) (I : List ℕ) : Type 0 where
  pub inside : (i : ℕ) → Memᴰ i I → i < columns p
  pub small : product (map (level p) I) ≤ highest_product

-- runs of which a table is made: there is one, so that n² is above zero
pub record Tabled (p : Plan) (rs : List ℕ) : Type 0 where
  pub sound : Sound p rs
  pub some : 1 ≤ length rs

-- at least one column, each of the m from 0 on
pub record SomeColumns (m : ℕ) (I : List ℕ) : Type 0 where
  pub some : 1 ≤ length I
  pub inside : (i : ℕ) → Memᴰ i I → i < m

-- the entry in column i of the run that starts at place a of the table
abbrev pub entry_from : Plan → ℕ → ℕ → ℕ
entry_from p a i = get_or p.table (a + i) 0

-- a run that starts at place a of the table: in the columns I it lies there and has its entries below their levels
pub record Starts (p : Plan) (I : List ℕ) (a : ℕ) : Type 0 where
  pub inside : (i : ℕ) → Memᴰ i I → a + i < length p.table
  pub below : (i : ℕ) → Memᴰ i I → entry_from p a i < level p i

-- the score of column i, and the product of the scores in I, for the runs that start at a and at b
abbrev pub score_from : Plan → ℕ → ℕ → ℕ → ℤ
score_from p a b i = score (level p i) (entry_from p a i) (entry_from p b i)

abbrev pub score_product : Plan → List ℕ → ℕ → ℕ → ℤ
score_product p I a b = prod I (score_from p a b)

-- the product of the scores in I for the runs f and g
abbrev pub pair_of : Plan → List ℕ → ℕ → ℕ → ℤ
pair_of p I f g = prod I (score_at (level p) (entry p) f g)

-- W(I) / (n² · d), reduced
abbrev pub over_pairs : Plan → List ℕ → List ℕ → ℕ → Fraction
over_pairs p rs I d = reduced (nat_abs (word_of (level p) (entry p) rs I)) (length rs * length rs * d)

-- a projection size
pub record SizeOf (m f : ℕ) : Type 0 where
  pub low : 1 ≤ f
  pub high : f ≤ 4
  pub within : f ≤ m
