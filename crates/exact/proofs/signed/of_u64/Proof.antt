-- `signed::of_u64` meets its contract: the bits of a number below 2 ^ 63 stand for that number.
use Rattle.exact.proofs.Ground.{arith, rules}
use Rattle.exact.proofs.Bits.{nat-back}
use Rattle.exact.proofs.signed.of_u64.Statement.{statement}
use Rattle.exact.proofs.signed.of_u64.Tie as tie

returns : tie.Need-returns
returns c = nat-back c.args.x (omega arith)

pub of_u64_spec : {M : Type 1} → statement M
of_u64_spec = tie.close (tie.spec (λ c. search rules) returns)
