use Rattle.asked_held.proofs.Steps.{led-held}
use Rattle.asked_projections.proofs.asked_held_relative.Goals as goal

pub relative_table-answer-requires : goal.relative_table-answer-requires
relative_table-answer-requires c = rw c.led.ensures (led-held _ _)
