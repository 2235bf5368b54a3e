-- What the walk is given: the columns that are taken and those left, and the ratios so far.
use Rattle.std.specs.Prelude.{Bool, cond, ℕ, ◌<◌}
use mathlib.Core.List.{List, [], ◌∷◌, ◌++◌, Memᴰ}
use Rattle.exact.specs.Lists.{holds}
use Rattle.exact.specs.Fractions.{ShortDenominator}
use Rattle.exact.specs.declared.fractions.Fraction.{Fraction}
use Rattle.rules.specs.Plan.{Plan, columns, level, entry}
use Rattle.sets.specs.Sets.{choose}
use Rattle.parts.specs.Parts.{OnlyWord}
use Rattle.set_words.specs.Given.{Projection, Tabled}
use Rattle.set_words.specs.SetWords.{relative_of}
use Rattle.ratios.specs.Ratios.{greater}
use Rattle.ratios.specs.declared.Ratios.{Ratios}

-- the ratios with one more, of a set that holds the column or not
abbrev pub with_ratio : Ratios → Fraction → Bool → Ratios
with_ratio x r holding = record { largest = greater x.largest r; held = cond holding (greater x.held r) x.held }

module _ (p : Plan) (rs : List ℕ) (i : ℕ) where
  -- with those of some sets more, in their order
  abbrev pub further : Ratios → List (List ℕ) → Ratios
  further x [] = x
  further x (I ∷ Is) = further (with_ratio x (relative_of (level p) (entry p) rs I) (holds i I)) Is

-- ratios that can be compared
pub record ShortRatios (x : Ratios) : Type 0 where
  pub largest : ShortDenominator x.largest
  pub held : ShortDenominator x.held

-- a walk: the columns P are taken, and `left` of the columns `rest` are to be taken
pub record Walking (p : Plan) (rs P rest : List ℕ) (left : ℕ) : Type 0 where
  pub tabled : Tabled p rs
  pub inside : (i : ℕ) → Memᴰ i rest → i < columns p
  pub each : (I : List ℕ) → Memᴰ I (choose left rest) → Projection p (P ++ I) × OnlyWord p rs (P ++ I)
