-- `part_sums::fill` calls itself with one column less left: that is its measure.
use Rattle.std.proofs.Common.{length}
use Rattle.part_sums.proofs.+fill.Given as goal

abbrev pub decreases-fill : goal.decreases-fill
decreases-fill l = length l.rest.now
