-- The routine is handed all runs of the plan, and their words.
use Rattle.exact.proofs.Ground.{◌∙◌, sym, ap}
use Rattle.rules.specs.Plan.{plan, every_run}
use Rattle.rules.specs.Refusals.{refusal, answered, plan_checks}
use Rattle.rules.proofs.Answered.{left-early, ok-is}
use Rattle.plan.proofs.Answers.{begun-good, plan-err, plan-ok}
use Rattle.set_words.proofs.Answers.{good-tabled}
use Rattle.resolution.specs.Charts.{column_checks}
use Rattle.resolution.specs.Given.{measures}
use Rattle.resolution.proofs.routines.rate_plan.Goals as goal

pub words_of_plan-words-requires : goal.words_of_plan-words-requires
words_of_plan-words-requires c = begun-good (plan c.args.levels.now c.args.table.now) _ c.in_ok-runs.ensures

pub rate_answer-requires : goal.rate_answer-requires
rate_answer-requires c =
    let p = plan c.args.levels.now c.args.table.now in
    let w = c.in_ok-runs.ensures in
    rw (c.as_slice.ensures, ok-is (refusal (plan_checks p)) (every_run p) w)
    (record { tabled = good-tabled p (begun-good p (every_run p) w); of-runs = c.words_of_plan-words.ensures })

pub returns-in_err-runs : goal.returns-in_err-runs
returns-in_err-runs c =
    let p = plan c.args.levels.now c.args.table.now in
    left-early _ c.from_residual.ensures.1
    (plan-err p (column_checks p (every_run p) c.args.column) tt (every_run p) _ c.in_err-runs.ensures)

pub returns : goal.returns
returns c =
    let p = plan c.args.levels.now c.args.table.now in
    let i = c.args.column in
    let w = c.in_ok-runs.ensures in
    c.rate_answer.ensures
    ∙ ap (λ rs. answered (refusal (column_checks p rs i)) (measures p rs i)) (c.as_slice.ensures ∙ ok-is (refusal (plan_checks p)) (every_run p) w)
    ∙ sym (plan-ok p (column_checks p (every_run p) i) tt (every_run p) (measures p (every_run p) i) w)
