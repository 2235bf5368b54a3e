use Rattle.asked_held.proofs.Steps.{led-held}
use Rattle.asked_projections.proofs.asked_held_figure.Goals as goal

pub column_figure-answer-requires : goal.column_figure-answer-requires
column_figure-answer-requires c = rw c.led.ensures (led-held _ _)
