-- `words::words` meets its contract: what is refused is what the plan's checks refuse.
use Rattle.exact.proofs.Ground.{[], ◌∙◌, sym, ap}
use Rattle.std.specs.Prelude.{Ok}
use Rattle.rules.specs.Plan.{plan, every_run}
use Rattle.rules.proofs.Answered.{left-early}
use Rattle.plan.proofs.Answers.{begun-good, plan-err, plan-ok}
use Rattle.words.specs.Answers.{words_answer, word_list}
use Rattle.words.proofs.words.Goals as goal

pub returns-in_err-check : goal.returns-in_err-check
unfolding words_answer
returns-in_err-check c =
    let p = plan c.args.levels.now c.args.table.now in
    left-early c.from_residual.result c.from_residual.ensures.1 (plan-err p [] tt tt (word_list p (every_run p)) c.in_err-check.ensures)

pub words_of_plan-requires : goal.words_of_plan-requires
words_of_plan-requires c = begun-good (plan c.args.levels.now c.args.table.now) tt c.in_ok-check.ensures

pub returns : goal.returns
unfolding words_answer
returns c =
    let p = plan c.args.levels.now c.args.table.now in
    ap Ok c.words_of_plan.ensures ∙ sym (plan-ok p [] tt tt (word_list p (every_run p)) c.in_ok-check.ensures)
