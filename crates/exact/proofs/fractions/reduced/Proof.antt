-- `fractions::reduced` meets its contract: the divisor is the definition's, and above 0 since b is.
use Rattle.exact.proofs.Ground.{rules}
use Rattle.exact.specs.Fractions.{reduced}
use Rattle.exact.proofs.Divisors.{gcd-pos}
use Rattle.exact.proofs.fractions.reduced.Statement.{statement}
use Rattle.exact.proofs.fractions.reduced.Tie as tie

div-num : tie.Need-nonzero_div-num
div-num c = rw c.gcd-common.ensures (gcd-pos c.args.a c.args.b c.requires)

div-den : tie.Need-nonzero_div-den
div-den c = div-num c

returns : tie.Need-returns
unfolding reduced
returns c = rw c.gcd-common.ensures

pub reduced_spec : {M : Type 1} → statement M
reduced_spec = tie.close (tie.spec (λ c κs. search rules) div-num div-den returns)
