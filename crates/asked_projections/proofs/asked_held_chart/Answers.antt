use Rattle.asked_held.proofs.Steps.{led-held}
use Rattle.asked_projections.proofs.asked_held_chart.Goals as goal

pub charted-answer-requires : goal.charted-answer-requires
charted-answer-requires c = rw c.led.ensures (led-held _ _)
