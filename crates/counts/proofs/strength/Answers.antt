-- The plan's checks come first; the strength is that of all its runs.
use Rattle.exact.proofs.Ground.{◌≡◌, ◌∙◌, []}
use Rattle.exact.proofs.Numbers.{length_from}
use Rattle.rules.specs.Plan.{plan, level, entry, every_column, every_run, runs}
use Rattle.rules.specs.Refusals.{refusal, plan_checks}
use Rattle.rules.proofs.Answered.{left-early, ok-is, ok-again}
use Rattle.plan.specs.Good.{Good}
use Rattle.plan.proofs.Answers.{begun-good, plan-err}
use Rattle.plan.proofs.Sound.{good-sound}
use Rattle.counts.specs.Counts.{strength, strength_answer}
use Rattle.counts.proofs.strength.Goals.{After-as_slice}
use Rattle.counts.proofs.strength.Goals as goal

pub returns-in_err-runs : goal.returns-in_err-runs
unfolding strength_answer
returns-in_err-runs c =
    let p = plan c.args.levels.now c.args.table.now in
    left-early c.from_residual.result c.from_residual.ensures.1
    (plan-err p [] tt (every_run p) (strength (level p) (entry p) (every_run p) (every_column p)) c.in_err-runs.ensures)

-- an accepted plan, and the runs lent are all of its
module _ (c : After-as_slice) where
  good : Good (plan c.args.levels.now c.args.table.now)
  good = let p = plan c.args.levels.now c.args.table.now in begun-good p (every_run p) c.in_ok-runs.ensures

  lent : c.as_slice.result.now ≡ every_run (plan c.args.levels.now c.args.table.now)
  lent =
      let p = plan c.args.levels.now c.args.table.now in
      c.as_slice.ensures ∙ ok-is (refusal (plan_checks p)) (every_run p) c.in_ok-runs.ensures

pub strength-requires-clause-sound : goal.strength-requires-clause-sound
strength-requires-clause-sound c =
    let d = (goal.at.strength-requires-clause-sound c).After-as_slice in
    rw (lent d) (good-sound (plan c.args.levels.now c.args.table.now) (good d))

pub strength-requires-clause-in_bounds : goal.strength-requires-clause-in_bounds
strength-requires-clause-in_bounds c =
    let d = (goal.at.strength-requires-clause-in_bounds c).After-as_slice in
    let p = plan c.args.levels.now c.args.table.now in
    rw (lent d, length_from 0 (runs p)) (good d).runs-low

pub returns : goal.returns
unfolding strength_answer
returns c =
    let p = plan c.args.levels.now c.args.table.now in
    rw (c.strength.ensures, lent (goal.at.returns c).After-as_slice)
    (ok-again (refusal (plan_checks p)) (every_run p) c.in_ok-runs.ensures (strength (level p) (entry p) (every_run p) (every_column p)))
