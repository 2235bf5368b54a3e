-- Document 01, "Words" and "Strength, resolution, projections": fractions, reduced and compared exactly.
use Rattle.std.specs.Prelude.{Bool, true, false, cond, ◌&&◌, ℕ, ◌*◌, ◌/◌, ◌%◌, ◌<◌, ◌^◌, max, eqb, ltb}
use Rattle.std.specs.declared.cmp.Ordering.{Ordering}
use Rattle.std.specs.declared.cmp.Ordering.TheVariants.{Less, Greater}
use Rattle.std.specs.declared.cmp.Ordering.TheVariants as order
use Rattle.exact.specs.Lists.{largest}
use Rattle.exact.specs.declared.fractions.Fraction.{Fraction}
use Rattle.exact.specs.declared.fractions.Verdict.{Verdict}
use Rattle.exact.specs.declared.fractions.Verdict.TheVariants.{Better, Worse, Equal}

-- whether d leaves no rest in a, nor in b
abbrev pub divides_both : ℕ → ℕ → ℕ → Bool
divides_both a b d = eqb (a % d) 0 && eqb (b % d) 0

-- the greatest common divisor: the largest number up to the larger of the two that divides both. Of 0 and b it is b
unfoldable pub gcd : ℕ → ℕ → ℕ
gcd a b = largest (divides_both a b) (max a b)

abbrev pub zero_fraction : Fraction
zero_fraction = record { num = 0; den = 1 }

-- a / b as a reduced fraction, for b above 0; zero is 0/1
unfoldable pub reduced : ℕ → ℕ → Fraction
reduced a b = record { num = a / gcd a b; den = b / gcd a b }

abbrev pub is_better : Verdict → Bool
is_better Better = true
is_better Worse = false
is_better Equal = false

abbrev pub is_equal : Verdict → Bool
is_equal Better = false
is_equal Worse = false
is_equal Equal = true

-- the verdict on a number that compares so with another
abbrev pub verdict_of : Ordering → Verdict
verdict_of Less = Better
verdict_of Greater = Worse
verdict_of order.Equal = Equal

-- the first verdict, and the second where the first is equal
abbrev pub then : Verdict → Verdict → Verdict
then Better v = Better
then Worse v = Worse
then Equal v = v

-- the smaller number is better
abbrev pub smaller : ℕ → ℕ → Verdict
smaller a b = cond (ltb a b) Better (cond (ltb b a) Worse Equal)

-- the smaller fraction is better: x.num / x.den against y.num / y.den, by multiplying across
unfoldable pub smaller_fraction : Fraction → Fraction → Verdict
smaller_fraction x y = smaller (x.num * y.den) (y.num * x.den)

-- a denominator above 0 that fits 32 bits: what the comparison asks of its fractions
pub record ShortDenominator (x : Fraction) : Type 0 where
  pub above_zero : 0 < x.den
  pub short : x.den < 2 ^ 32
