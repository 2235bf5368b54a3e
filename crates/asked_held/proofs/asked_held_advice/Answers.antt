use Rattle.asked_held.proofs.Steps.{led-held}
use Rattle.asked_held.proofs.asked_held_advice.Goals as goal

pub advice-answer-requires : goal.advice-answer-requires
advice-answer-requires c = rw c.led.ensures (led-held _ _)
