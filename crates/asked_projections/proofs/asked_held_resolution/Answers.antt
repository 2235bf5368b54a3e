use Rattle.asked_held.proofs.Steps.{led-held}
use Rattle.asked_projections.proofs.asked_held_resolution.Goals as goal

pub resolution-answer-requires : goal.resolution-answer-requires
resolution-answer-requires c = rw c.led.ensures (led-held _ _)
