use Rattle.asked_held.proofs.Steps.{led-held}
use Rattle.asked_held.proofs.asked_held_strength.Goals as goal

pub strength-answer-requires : goal.strength-answer-requires
strength-answer-requires c = rw c.led.ensures (led-held _ _)
