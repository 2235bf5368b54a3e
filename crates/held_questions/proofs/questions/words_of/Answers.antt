-- The words held are those of the standing runs.
use Rattle.exact.proofs.Ground.{[], sym}
use Rattle.rules.proofs.Answered.{left-early}
use Rattle.words.specs.Answers.{word_list, words_answer}
use Rattle.held.specs.Held.{plan_in, standing_in}
use Rattle.held.proofs.History.{words-standing}
use Rattle.held.proofs.Lent.{stops, goes-on}
use Rattle.held_questions.proofs.questions.words_of.Goals as goal

pub returns-in_err-standing_runs : goal.returns-in_err-standing_runs
unfolding words_answer
returns-in_err-standing_runs c =
    let h = c.args.held.now in
    left-early _ c.from_residual.ensures.1 (stops h c.in_err-standing_runs.ensures [] (word_list (plan_in h) (standing_in h)))

pub returns : goal.returns
unfolding words_answer
returns c =
    let h = c.args.held.now in
    rw (words-standing c.requires) (sym (goes-on h c.in_ok-standing_runs.ensures [] (word_list (plan_in h) (standing_in h))))
