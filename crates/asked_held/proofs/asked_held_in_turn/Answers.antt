use Rattle.exact.proofs.Ground.{rules}
use Rattle.held.specs.Held.{plan_in, standing_in}
use Rattle.held_questions.specs.Answers.{held_turns}
use Rattle.asked.proofs.Rows.{held-turns}
use Rattle.asked_held.proofs.Steps.{led-held}
use Rattle.asked_held.proofs.asked_held_in_turn.Goals as goal

pub in_turn-answer-requires : goal.in_turn-answer-requires
in_turn-answer-requires c = rw c.led.ensures (led-held _ _)

pub in_row-requires : goal.in_row-requires
unfolding held_turns
in_row-requires c =
    let h = c.led.result in
    rw c.in_turn-answer.ensures (search rules, (search rules, held-turns (plan_in h) (standing_in h) (standing_in h) c.args.k))
