-- Past the checks of the plan its words are counted.
use Rattle.exact.proofs.Ground.{◌∙◌, sym, ap, refl}
use Rattle.std.specs.Prelude.{Ok}
use Rattle.exact.proofs.Numbers.{length_from}
use Rattle.rules.specs.Plan.{plan, columns, runs, every_run}
use Rattle.rules.proofs.Answered.{left-early, err-again, ok-again, ok-accepted}
use Rattle.plan.proofs.Checks.{passed-good}
use Rattle.words.specs.Answers.{word_list}
use Rattle.compare.specs.Given.{side, whole_side}
use Rattle.compare.proofs.routines.side_of.Goals as goal

pub returns-in_err-check : goal.returns-in_err-check
unfolding whole_side
returns-in_err-check c = left-early _ c.from_residual.ensures.1 (err-again _ tt c.in_err-check.ensures _)

pub words_of_plan-requires : goal.words_of_plan-requires
words_of_plan-requires c =
    let a = c.args in passed-good (plan a.levels.now a.table.now) refl (ok-accepted _ tt c.in_ok-check.ensures)

pub returns : goal.returns
unfolding whole_side
returns c =
    let p = plan c.args.levels.now c.args.table.now in
    rw c.words_of_plan.ensures
    (ap (λ n. Ok (record { words = word_list p (every_run p); runs = n; columns = columns p })) (sym (length_from 0 (runs p)))
    ∙ ok-again _ tt c.in_ok-check.ensures (side p (every_run p)))
