-- What the advice compares: the losses all leave n - 1 runs, so that the larger row sum leaves the smaller word, and is better.
use Rattle.std.specs.Prelude.{cond, List, [], ◌∷◌, ℤ}
use Rattle.std.specs.Int.Signed.{lt_z}
use Rattle.exact.specs.Fractions.{then}
use Rattle.exact.specs.declared.fractions.Verdict.{Verdict}
use Rattle.exact.specs.declared.fractions.Verdict.TheVariants.{Better, Worse, Equal}

abbrev pub larger : ℤ → ℤ → Verdict
larger a b = cond (lt_z b a) Better (cond (lt_z a b) Worse Equal)

-- row sums by length, by the first length at which they differ
unfoldable pub larger_row : List ℤ → List ℤ → Verdict
larger_row [] bs = Equal
larger_row (a ∷ rest) [] = Equal
larger_row (a ∷ rest) (b ∷ bs) = then (larger a b) (larger_row rest bs)
