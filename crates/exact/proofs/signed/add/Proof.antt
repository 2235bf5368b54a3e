-- `signed::add` meets its contract: the sum of what the bits stand for fits, by the bound of its size.
use Rattle.exact.proofs.Ground.{◌+ℤ◌}
use Rattle.exact.proofs.Bits.{operation-fits, operation-is}
use Rattle.exact.proofs.signed.add.Statement.{statement}
use Rattle.exact.proofs.signed.add.Tie as tie

add-result : tie.Need-overflow_add-result
add-result c = operation-fits ◌+ℤ◌ c.ranges.a c.ranges.b c.requires

returns : tie.Need-returns
returns c = operation-is ◌+ℤ◌ c.ranges.a c.ranges.b c.requires

pub add_spec : {M : Type 1} → statement M
add_spec = tie.close (tie.spec add-result returns)
