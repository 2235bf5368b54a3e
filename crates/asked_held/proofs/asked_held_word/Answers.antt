use Rattle.asked_held.proofs.Steps.{led-held}
use Rattle.asked_held.proofs.asked_held_word.Goals as goal

pub word-answer-requires : goal.word-answer-requires
word-answer-requires c = rw c.led.ensures (led-held _ _)
