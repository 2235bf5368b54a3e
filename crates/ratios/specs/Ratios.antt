-- Document 01, "Strength, resolution, projections": the greatest of some ratios, and the ratios of some sets of columns.
use Rattle.std.specs.Prelude.{cond, List, [], ◌∷◌, map, ℕ}
use Rattle.exact.specs.Lists.{keep, holds}
use Rattle.exact.specs.Fractions.{zero_fraction, smaller_fraction, is_better}
use Rattle.exact.specs.declared.fractions.Fraction.{Fraction}
use Rattle.rules.specs.Plan.{Plan, level, entry}
use Rattle.set_words.specs.SetWords.{relative_of}
use Rattle.ratios.specs.declared.Ratios.{Ratios}

-- the greater of two fractions; of equal ones the first
abbrev pub greater : Fraction → Fraction → Fraction
greater x y = cond (is_better (smaller_fraction x y)) y x

-- the greatest of x and the fractions
abbrev pub greatest_from : Fraction → List Fraction → Fraction
greatest_from x [] = x
greatest_from x (y ∷ ys) = greatest_from (greater x y) ys

-- the greatest of the fractions, and 0/1 where there is none
unfoldable pub greatest : List Fraction → Fraction
greatest xs = greatest_from zero_fraction xs

-- the greatest relative value of the sets, and of those that hold column i
unfoldable pub ratios_of : Plan → List ℕ → List (List ℕ) → ℕ → Ratios
ratios_of p rs sets i = record {
  largest = greatest (map (relative_of (level p) (entry p) rs) sets);
  held = greatest (map (relative_of (level p) (entry p) rs) (keep (holds i) sets));
}
