-- Past the checks of the plan all its runs stand.
use Rattle.exact.proofs.Ground.{sym, refl}
use Rattle.rules.specs.Plan.{plan, every_run}
use Rattle.rules.specs.Refusals.{plan_checks}
use Rattle.rules.proofs.Answered.{left-early, err-first, ok-first, ok-is, ok-accepted}
use Rattle.plan.proofs.Checks.{passed-good}
use Rattle.advice.specs.Advice.{turns_checks, turns_answer}
use Rattle.advice.proofs.Enough.{good-standing}
use Rattle.advice.proofs.in_turn.Goals as goal

pub returns-in_err-runs : goal.returns-in_err-runs
unfolding turns_answer
returns-in_err-runs c =
    let p = plan c.args.levels.now c.args.table.now in
    left-early _ c.from_residual.ensures.1
    (err-first (plan_checks p) (turns_checks c.args.k (every_run p)) tt (every_run p) _ c.in_err-runs.ensures)

pub turns_answer-requires : goal.turns_answer-requires
turns_answer-requires c =
    let p = plan c.args.levels.now c.args.table.now in
    rw (c.as_slice.ensures, ok-is _ (every_run p) c.in_ok-runs.ensures)
    (good-standing p (passed-good p refl (ok-accepted _ (every_run p) c.in_ok-runs.ensures)))

pub returns : goal.returns
unfolding turns_answer
returns c =
    let p = plan c.args.levels.now c.args.table.now in
    rw (c.turns_answer.ensures, c.as_slice.ensures, ok-is _ (every_run p) c.in_ok-runs.ensures)
    (sym (ok-first (plan_checks p) (turns_checks c.args.k (every_run p)) tt (every_run p) _ c.in_ok-runs.ensures))
