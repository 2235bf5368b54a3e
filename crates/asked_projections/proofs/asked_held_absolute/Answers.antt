use Rattle.asked_held.proofs.Steps.{led-held}
use Rattle.asked_projections.proofs.asked_held_absolute.Goals as goal

pub absolute_table-answer-requires : goal.absolute_table-answer-requires
absolute_table-answer-requires c = rw c.led.ensures (led-held _ _)
