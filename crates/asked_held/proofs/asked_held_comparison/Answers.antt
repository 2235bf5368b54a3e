use Rattle.asked_held.proofs.Steps.{led-held}
use Rattle.asked_held.proofs.asked_held_comparison.Goals as goal

pub compare-requires : goal.compare-requires
compare-requires c = (rw c.led-held.ensures (led-held _ _), rw c.led-other.ensures (led-held _ _))
