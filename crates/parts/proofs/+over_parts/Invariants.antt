-- `parts::over_parts` calls itself with one column less: that is its measure.
use Rattle.std.proofs.Common.{length}
use Rattle.parts.proofs.+over_parts.Given as goal

abbrev pub decreases-over_parts : goal.decreases-over_parts
decreases-over_parts l = length l.columns.now
