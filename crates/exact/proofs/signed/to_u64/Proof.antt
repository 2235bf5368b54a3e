-- `signed::to_u64` meets its contract: a signed number that is not negative fits 64 bits without a sign.
use Rattle.exact.proofs.Bits.{unsigned-fits, unsigned_is}
use Rattle.exact.proofs.signed.to_u64.Statement.{statement}
use Rattle.exact.proofs.signed.to_u64.Tie as tie

cast-result : tie.Need-overflow_cast-result
cast-result c = unsigned-fits c.ranges.x c.requires

returns : tie.Need-returns
returns c = unsigned_is c.ranges.x c.requires

pub to_u64_spec : {M : Type 1} → statement M
to_u64_spec = tie.close (tie.spec cast-result returns)
