-- `signed::sub` meets its contract: the difference of what the bits stand for fits, by the bound of its size.
use Rattle.exact.proofs.Ground.{◌-ℤ◌}
use Rattle.exact.proofs.Bits.{operation-fits, operation-is}
use Rattle.exact.proofs.signed.sub.Statement.{statement}
use Rattle.exact.proofs.signed.sub.Tie as tie

sub-result : tie.Need-overflow_sub-result
sub-result c = operation-fits ◌-ℤ◌ c.ranges.a c.ranges.b c.requires

returns : tie.Need-returns
returns c = operation-is ◌-ℤ◌ c.ranges.a c.ranges.b c.requires

pub sub_spec : {M : Type 1} → statement M
sub_spec = tie.close (tie.spec sub-result returns)
