use Rattle.asked_held.proofs.Steps.{led-held}
use Rattle.asked_held.proofs.asked_held_row_sums.Goals as goal

pub row_sums-answer-requires : goal.row_sums-answer-requires
row_sums-answer-requires c = rw c.led.ensures (led-held _ _)
