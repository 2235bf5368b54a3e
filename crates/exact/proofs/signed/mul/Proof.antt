-- `signed::mul` meets its contract: the product of what the bits stand for fits, by the bound of its size.
use Rattle.exact.proofs.Ground.{◌*ℤ◌}
use Rattle.exact.proofs.Bits.{operation-fits, operation-is}
use Rattle.exact.proofs.signed.mul.Statement.{statement}
use Rattle.exact.proofs.signed.mul.Tie as tie

mul-result : tie.Need-overflow_mul-result
mul-result c = operation-fits ◌*ℤ◌ c.ranges.a c.ranges.b c.requires

returns : tie.Need-returns
returns c = operation-is ◌*ℤ◌ c.ranges.a c.ranges.b c.requires

pub mul_spec : {M : Type 1} → statement M
mul_spec = tie.close (tie.spec mul-result returns)
