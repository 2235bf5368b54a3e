-- `part_sums::over_stored` calls itself with one column less: that is its measure.
use Rattle.std.proofs.Common.{length}
use Rattle.part_sums.proofs.+over_stored.Given as goal

abbrev pub decreases-over_stored : goal.decreases-over_stored
decreases-over_stored l = length l.columns.now
