use Rattle.asked_held.proofs.Steps.{led-held}
use Rattle.asked_projections.proofs.asked_held_generalized.Goals as goal

pub generalized-answer-requires : goal.generalized-answer-requires
generalized-answer-requires c = rw c.led.ensures (led-held _ _)
