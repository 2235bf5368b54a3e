-- Two sides, each of the standing runs of its plan.
use Rattle.exact.proofs.Ground.{refl}
use Rattle.held.specs.Held.{of_standing}
use Rattle.compare.proofs.Sides.{standing-sided, sides-compared}
use Rattle.held_questions.specs.Answers.{held_comparison}
use Rattle.held_questions.proofs.Lent.{held-standing}
use Rattle.held_questions.proofs.questions.compare.Goals as goal

pub compare_answer-answer-requires : goal.compare_answer-answer-requires
compare_answer-answer-requires c =
    (standing-sided (held-standing c.requires.0 c.side_of.ensures), standing-sided (held-standing c.requires.1 c.side_of-2.ensures))

pub returns : goal.returns
unfolding held_comparison
returns c =
    let h = c.args.held in
    let k = c.args.other in
    let A = held-standing c.requires.0 c.side_of.ensures in
    let B = held-standing c.requires.1 c.side_of-2.ensures in
    rw (c.compare_answer-answer.ensures, sides-compared A B (of_standing h) (of_standing k) refl refl)
