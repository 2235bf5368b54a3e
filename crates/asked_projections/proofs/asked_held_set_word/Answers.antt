use Rattle.asked_held.proofs.Steps.{led-held}
use Rattle.asked_projections.proofs.asked_held_set_word.Goals as goal

pub set_word-answer-requires : goal.set_word-answer-requires
set_word-answer-requires c = rw c.led.ensures (led-held _ _)
