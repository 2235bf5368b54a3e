-- A refused plan, no marks, or one for each run.
use Rattle.exact.proofs.Ground.{◌≡◌, ◌∙◌, ap, arith, rules, length}
use Rattle.exact.proofs.Numbers.{length_from}
use Rattle.rules.specs.Plan.{plan, runs, every_run}
use Rattle.rules.proofs.Answered.{left-early, err-again, ok-again, ok-is}
use Rattle.marked.proofs.Beginnings.{plan-stops, plan-good, marked_all, marked-eight, marked-some}
use Rattle.marked.proofs.marked_runs.Goals as goal

pub returns-in_err-runs : goal.returns-in_err-runs
returns-in_err-runs c =
    left-early _ c.from_residual.ensures.1 (plan-stops (plan c.args.levels.now c.args.table.now) c.args.marks.now c.in_err-runs.ensures)

pub returns-then-is_empty : goal.returns-then-is_empty
returns-then-is_empty c =
    let p = plan c.args.levels.now c.args.table.now in
    let none : length c.args.marks.now ≡ 0 = search rules in
    rw (ok-is _ (every_run p) c.in_ok-runs.ensures) (marked_all p c.args.marks.now c.in_ok-runs.ensures none)

pub returns-then-marks-count : goal.returns-then-marks-count
returns-then-marks-count c =
    let p = plan c.args.levels.now c.args.table.now in
    let some : ¬ (length c.args.marks.now ≡ 0) = search rules in
    let many : length c.in_ok-runs.runs ≡ runs p = ap length (ok-is _ (every_run p) c.in_ok-runs.ensures) ∙ length_from 0 (runs p) in
    rw c.plain.ensures (marked-eight p c.args.marks.now c.in_ok-runs.ensures some (λ e. omega arith))

pub standing_in-standing-requires : goal.standing_in-standing-requires
standing_in-standing-requires c =
    let p = plan c.args.levels.now c.args.table.now in
    let many : length c.in_ok-runs.runs ≡ runs p = ap length (ok-is _ (every_run p) c.in_ok-runs.ensures) ∙ length_from 0 (runs p) in
    omega (arith, many, (plan-good p c.args.marks.now c.in_ok-runs.ensures).runs-high)

pub returns-in_err-too_few : goal.returns-in_err-too_few
returns-in_err-too_few c =
    let p = plan c.args.levels.now c.args.table.now in
    let marks = c.args.marks.now in
    let some : ¬ (length marks ≡ 0) = search rules in
    let many : length c.in_ok-runs.runs ≡ runs p = ap length (ok-is _ (every_run p) c.in_ok-runs.ensures) ∙ length_from 0 (runs p) in
    left-early _ c.from_residual-in_err-too_few.ensures.1
    (rw (marked-some p marks c.in_ok-runs.ensures some (omega arith))
    (err-again _ tt (rw (c.len.ensures, c.standing_in-standing.ensures) at c.in_err-too_few.ensures) _))

pub returns : goal.returns
returns c =
    let p = plan c.args.levels.now c.args.table.now in
    let marks = c.args.marks.now in
    let some : ¬ (length marks ≡ 0) = search rules in
    let many : length c.in_ok-runs.runs ≡ runs p = ap length (ok-is _ (every_run p) c.in_ok-runs.ensures) ∙ length_from 0 (runs p) in
    rw (c.standing_in-standing.ensures, marked-some p marks c.in_ok-runs.ensures some (omega arith))
    (ok-again _ tt (rw (c.len.ensures, c.standing_in-standing.ensures) at c.in_ok-too_few.ensures) _)
