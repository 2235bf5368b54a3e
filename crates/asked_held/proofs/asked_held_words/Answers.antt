use Rattle.asked_held.proofs.Steps.{led-held}
use Rattle.asked_held.proofs.asked_held_words.Goals as goal

pub words-answer-requires : goal.words-answer-requires
words-answer-requires c = rw c.led.ensures (led-held _ _)
