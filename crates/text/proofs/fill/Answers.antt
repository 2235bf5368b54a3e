-- The plan's checks, then the rooms'.
use Rattle.exact.proofs.Ground.{◌∙◌, sym, length, le-ltb, lt-ltb}
use Rattle.rules.specs.Plan.{plan, columns}
use Rattle.rules.specs.Refusals.{plan_checks}
use Rattle.rules.proofs.Answered.{err-first, ok-first, left-early}
use Rattle.text.specs.Reader.{room_checks, plan_refusal, sizes}
use Rattle.text.proofs.fill.Goals as goal
use Rattle.text.proofs.fill.Goals.{then-levelroom-levels-via-then-levelroom-levels, then-levelroom-levels-via-else-levelroom-levels+then-tableroom-table}

pub returns-in_err-check-clause-answer : goal.returns-in_err-check-clause-answer
unfolding plan_refusal
returns-in_err-check-clause-answer c =
    let a = c.args in
    let p = plan a.levels.now a.table.now in
    left-early c.from_residual.result c.from_residual.ensures.1
    (err-first (plan_checks p) (room_checks p (length a.levelroom.now) (length a.tableroom.now)) tt tt (sizes p) c.in_err-check.ensures)

pub returns-then-levelroom-levels-clause-answer : goal.returns-then-levelroom-levels-clause-answer
unfolding plan_refusal
returns-then-levelroom-levels-clause-answer c =
    let a = c.args in
    let p = plan a.levels.now a.table.now in
    let m = length a.levelroom.now in
    let n = length a.tableroom.now in
    rw c.plain.ensures
    (sym (ok-first (plan_checks p) (room_checks p m n) tt tt (sizes p) c.in_ok-check.ensures
    ∙ elim c.then-levelroom-levels.branch [
      | then-levelroom-levels-via-then-levelroom-levels w ↦ rw (lt-ltb m (columns p) w.if-levelroom-levels.true)
      | then-levelroom-levels-via-else-levelroom-levels+then-tableroom-table w ↦
          rw (le-ltb m (columns p) w.if-levelroom-levels.false, lt-ltb n (length p.table) w.if-tableroom-table.true)
    ]))

pub returns-clause-answer : goal.returns-clause-answer
unfolding plan_refusal
returns-clause-answer c =
    let a = c.args in
    let p = plan a.levels.now a.table.now in
    let m = length a.levelroom.now in
    let n = length a.tableroom.now in
    sym (ok-first (plan_checks p) (room_checks p m n) tt tt (sizes p) c.in_ok-check.ensures
    ∙ rw (le-ltb m (columns p) c.if-levelroom-levels.false, le-ltb n (length p.table) c.if-tableroom-table.false))
