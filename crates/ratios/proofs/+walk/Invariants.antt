-- `walk` calls itself with one column less left: that is its measure.
use Rattle.std.proofs.Common.{length}
use Rattle.ratios.proofs.+walk.Given as goal

abbrev pub decreases-walk : goal.decreases-walk
decreases-walk l = length l.rest.now
