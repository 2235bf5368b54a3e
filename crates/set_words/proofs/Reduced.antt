-- Fractions in lowest terms: equal ones are the same, and every value of a set of columns is one.
use Rattle.exact.proofs.Ground.{Bool, List, ◌≡◌, ◌∙◌, sym, ℕ, ◌≤◌, ◌<◌, ◌*◌, mul-pos, arith, nat_abs, length}
use native.Mathlib.Nat.{div-one}
use Rattle.exact.specs.Fractions.{zero_fraction, reduced, smaller_fraction}
use Rattle.exact.specs.declared.fractions.Fraction.{Fraction}
use Rattle.exact.specs.declared.fractions.Verdict.TheVariants.{Equal}
use Rattle.exact.proofs.Divisors.{gcd-zero-left}
use Rattle.exact.proofs.Reduced.{reduced-den-pos, reduced-lowest, reduced-same}
use Rattle.exact.proofs.Verdicts.{eq-smaller}
use Rattle.rules.specs.Plan.{Plan, level, entry}
use Rattle.words.specs.Words.{word_of}
use Rattle.set_words.specs.Given.{Projection, Tabled}
use Rattle.set_words.specs.Properties.{IsReduced}
use Rattle.set_words.specs.SetWords.{value_in}
use Rattle.set_words.proofs.Values.{value-has}

pub zero-reduced : IsReduced zero_fraction
zero-reduced = record { above_zero = omega arith; lowest = gcd-zero-left 1 }

-- a fraction in lowest terms is its own reduced form
reduced-self : (x : Fraction) → IsReduced x → reduced x.num x.den ≡ x
unfolding reduced
reduced-self x R = rw (R.lowest, div-one x.num, div-one x.den)

pub equal-reduced : (x y : Fraction) → IsReduced x → IsReduced y → smaller_fraction x y ≡ Equal → x ≡ y
unfolding smaller_fraction
equal-reduced x y R S e =
    sym (reduced-self x R)
    ∙ reduced-same x.num x.den y.num y.den R.above_zero S.above_zero (eq-smaller (x.num * y.den) (y.num * x.den) e)
    ∙ reduced-self y S

module _ (p : Plan) (rs I : List ℕ) (G : Tabled p rs) (P : Projection p I) (some : 1 ≤ length I) where
  pub value-reduced : (relative : Bool) → IsReduced (value_in relative p rs I)
  value-reduced = value-has p rs I G P some IsReduced zero-reduced (λ d low high.
      let a = nat_abs (word_of (level p) (entry p) rs I) in
      let b = length rs * length rs * d in
      let above : 0 < b = mul-pos (mul-pos G.some G.some) low in
      record { above_zero = reduced-den-pos a b above; lowest = reduced-lowest a b above })
