-- What a value of a set of columns is: a fraction in lowest terms, so that equal values are one fraction.
use Rattle.std.specs.Prelude.{◌≡◌, ◌<◌}
use Rattle.exact.specs.Fractions.{gcd}
use Rattle.exact.specs.declared.fractions.Fraction.{Fraction}

pub record IsReduced (x : Fraction) : Type 0 where
  pub above_zero : 0 < x.den
  pub lowest : gcd x.num x.den ≡ 1
