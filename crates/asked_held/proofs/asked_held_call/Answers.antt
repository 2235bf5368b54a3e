use Rattle.asked_held.proofs.Steps.{led-held}
use Rattle.asked_held.proofs.asked_held_call.Goals as goal

pub called-answered-requires : goal.called-answered-requires
called-answered-requires c = rw c.led.ensures (led-held _ _)
