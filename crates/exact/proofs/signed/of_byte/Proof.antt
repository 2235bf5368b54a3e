-- `signed::of_byte` meets its contract: the bits of a byte stand for that number.
use Rattle.exact.proofs.Ground.{arith, rules}
use Rattle.exact.proofs.Bits.{nat-back}
use Rattle.exact.proofs.signed.of_byte.Statement.{statement}
use Rattle.exact.proofs.signed.of_byte.Tie as tie

returns : tie.Need-returns
returns c = nat-back c.args.x (omega arith)

pub of_byte_spec : {M : Type 1} → statement M
of_byte_spec = tie.close (tie.spec (λ c. search rules) returns)
