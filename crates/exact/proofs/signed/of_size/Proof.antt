-- `signed::of_size` meets its contract: the bits of a number below 2 ^ 63 stand for that number.
use Rattle.exact.proofs.Ground.{arith, rules}
use Rattle.exact.proofs.Bits.{nat-back}
use Rattle.exact.proofs.signed.of_size.Statement.{statement}
use Rattle.exact.proofs.signed.of_size.Tie as tie

returns : tie.Need-returns
returns c = nat-back c.args.x (omega arith)

pub of_size_spec : {M : Type 1} → statement M
of_size_spec = tie.close (tie.spec (λ c. search rules) returns)
