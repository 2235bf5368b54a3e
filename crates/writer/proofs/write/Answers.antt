-- A plan that passes its checks is good, so all its runs are sound.
use Rattle.exact.proofs.Ground.{[], ◌∷◌, ◌∙◌, sym, ap, refl, length}
use Rattle.rules.specs.Plan.{plan, every_run}
use Rattle.rules.specs.Refusals.{refusal, plan_checks}
use Rattle.rules.proofs.Answered.{ok-accepted, ok-is, err-first, ok-first, left-early}
use Rattle.plan.proofs.Checks.{passed-good}
use Rattle.writer.specs.Writer.{text_of, bad_text_room, write_answer}
use Rattle.writer.proofs.Written.{good-runs}
use Rattle.writer.proofs.write.Goals as goal

pub returns-in_err-every-clause-answer : goal.returns-in_err-every-clause-answer
unfolding write_answer
returns-in_err-every-clause-answer c =
    let a = c.args in
    let p = plan a.levels.now a.table.now in
    let rs = every_run p in
    left-early c.from_residual.result c.from_residual.ensures.1
    (err-first (plan_checks p) (bad_text_room p rs (length a.room.now) ∷ []) tt rs (length (text_of p rs)) c.in_err-every.ensures)

pub write_runs-requires : goal.write_runs-requires
write_runs-requires c =
    let p = plan c.args.levels.now c.args.table.now in
    let r = refusal (plan_checks p) in
    rw (c.as_slice.ensures, ok-is r (every_run p) c.in_ok-every.ensures)
    (good-runs p (passed-good p refl (ok-accepted r (every_run p) c.in_ok-every.ensures)))

pub returns-clause-answer : goal.returns-clause-answer
unfolding write_answer
returns-clause-answer c =
    let a = c.args in
    let p = plan a.levels.now a.table.now in
    let rs = every_run p in
    let n = length a.room.now in
    let e = c.as_slice.ensures ∙ ok-is (refusal (plan_checks p)) rs c.in_ok-every.ensures in
    c.write_runs.ensures.answer ∙ ap (λ ss. write_answer p ss (λ checks. checks) n) e
    ∙ sym (ok-first (plan_checks p) (bad_text_room p rs n ∷ []) tt rs (length (text_of p rs)) c.in_ok-every.ensures)
