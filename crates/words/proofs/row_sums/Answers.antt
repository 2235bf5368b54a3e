-- `words::row_sums` meets its contract: what is refused is what the plan's checks refuse.
use Rattle.exact.proofs.Ground.{[], ◌∙◌, sym, ap}
use Rattle.std.specs.Prelude.{Ok}
use Rattle.rules.specs.Plan.{plan, every_run}
use Rattle.rules.specs.Refusals.{refusal, plan_checks}
use Rattle.rules.proofs.Answered.{ok-is, left-early}
use Rattle.plan.proofs.Sound.{good-sound}
use Rattle.plan.proofs.Answers.{begun-good, plan-err, plan-ok}
use Rattle.words.specs.Answers.{row_sums_answer, rows_by_run}
use Rattle.words.proofs.row_sums.Goals as goal

pub returns-in_err-runs : goal.returns-in_err-runs
unfolding row_sums_answer
returns-in_err-runs c =
    let p = plan c.args.levels.now c.args.table.now in
    left-early c.from_residual.result c.from_residual.ensures.1 (plan-err p [] tt (every_run p) (rows_by_run p (every_run p)) c.in_err-runs.ensures)

pub rows-requires : goal.rows-requires
rows-requires c =
    let p = plan c.args.levels.now c.args.table.now in let w = c.in_ok-runs.ensures in
    rw (c.as_slice.ensures, ok-is (refusal (plan_checks p)) (every_run p) w) (good-sound p (begun-good p (every_run p) w))

pub returns : goal.returns
unfolding row_sums_answer
returns c =
    let p = plan c.args.levels.now c.args.table.now in let w = c.in_ok-runs.ensures in
    ap Ok (c.rows.ensures ∙ ap (rows_by_run p) (c.as_slice.ensures ∙ ok-is (refusal (plan_checks p)) (every_run p) w))
    ∙ sym (plan-ok p [] tt (every_run p) (rows_by_run p (every_run p)) w)
