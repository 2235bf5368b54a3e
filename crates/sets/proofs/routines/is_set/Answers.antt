-- All numbers are left.
use Rattle.sets.proofs.Rising.{set-rises}
use Rattle.sets.proofs.routines.is_set.Goals as goal

pub loop-column-init : goal.loop-column-init
loop-column-init c = set-rises c.args.m c.args.columns.now
