-- The routine is handed all runs of the plan.
use Rattle.exact.proofs.Ground.{◌∙◌, sym, ap}
use Rattle.rules.specs.Plan.{plan, every_run}
use Rattle.rules.specs.Refusals.{refusal, answered, plan_checks}
use Rattle.rules.proofs.Answered.{left-early, ok-is}
use Rattle.plan.proofs.Answers.{begun-good, plan-err, plan-ok}
use Rattle.plan.proofs.Sound.{good-sound}
use Rattle.tell.specs.Answer.{tell_checks, told, tell_answer}
use Rattle.tell.proofs.tell.Goals as goal

pub returns-in_err-runs : goal.returns-in_err-runs
unfolding tell_answer
returns-in_err-runs c =
    let a = c.args in
    let p = plan a.levels.now a.table.now in
    left-early _ c.from_residual.ensures.1
    (plan-err p (tell_checks p a.column a.others.now) tt (every_run p) (told p (every_run p) a.column a.others.now) c.in_err-runs.ensures)

pub tell_answer-requires : goal.tell_answer-requires
tell_answer-requires c =
    let p = plan c.args.levels.now c.args.table.now in
    let w = c.in_ok-runs.ensures in
    rw (c.as_slice.ensures, ok-is (refusal (plan_checks p)) (every_run p) w) (good-sound p (begun-good p (every_run p) w))

pub returns : goal.returns
unfolding tell_answer
returns c =
    let a = c.args in
    let p = plan a.levels.now a.table.now in
    let checks = tell_checks p a.column a.others.now in
    let w = c.in_ok-runs.ensures in
    c.tell_answer.ensures
    ∙ ap (λ rs. answered (refusal checks) (told p rs a.column a.others.now)) (c.as_slice.ensures ∙ ok-is (refusal (plan_checks p)) (every_run p) w)
    ∙ sym (plan-ok p checks tt (every_run p) (told p (every_run p) a.column a.others.now) w)
