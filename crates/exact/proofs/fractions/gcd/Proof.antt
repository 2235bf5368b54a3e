-- `fractions::gcd` meets its contract: each turn keeps the greatest common divisor of the pair and makes the second number smaller.
use Rattle.exact.proofs.Ground.{◌≡◌, ◌∙◌, sym, ap, refl, ◌<◌, arith}
use native.Mathlib.Nat.{mod-lt}
use Rattle.exact.specs.Fractions.{gcd}
use Rattle.exact.proofs.Divisors.{gcd-step, gcd-zero}
use Rattle.exact.proofs.fractions.gcd.Statement.{statement}
use Rattle.exact.proofs.fractions.gcd.Tie as tie

abbrev invariant-loop-y : tie.invariant-loop-y
invariant-loop-y a b x₀ y₀ x y = gcd x y ≡ gcd a b

abbrev decreases-loop-y : tie.decreases-loop-y
decreases-loop-y a b x₀ y₀ x y = y

above_zero : (c : tie.In-loop-y invariant-loop-y decreases-loop-y) → 0 < c.loop-y.y
above_zero c = omega arith

rem-rest : tie.Need-nonzero_rem-rest invariant-loop-y decreases-loop-y
rem-rest c = above_zero c

loop-less : tie.Need-loop-y-smaller invariant-loop-y decreases-loop-y
loop-less c = mod-lt c.loop-y.x (above_zero c)

loop-again : tie.Need-loop-y-preserved invariant-loop-y decreases-loop-y
loop-again c = sym (gcd-step c.loop-y.x c.loop-y.y) ∙ c.loop-y.invariant

returns : tie.Need-returns invariant-loop-y decreases-loop-y
returns c =
    let x = c.loop-y.x in
    sym (gcd-zero x) ∙ ap (gcd x) (sym c.loop-y-test.false) ∙ c.loop-y.invariant

pub gcd_spec : {M : Type 1} → statement M
gcd_spec = tie.close (tie.spec invariant-loop-y decreases-loop-y (λ c. refl) rem-rest loop-less loop-again returns)
