-- Each turn puts the line of a run behind those before it.
use Rattle.exact.proofs.Ground.{arith, get_or}
use Rattle.rules.specs.Plan.{plan}
use Rattle.writer.proofs.Rows.{row-size}
use Rattle.writer.proofs.RunWriting.{run-next, run_inside, run_fits, run-slice, run_short, text-left, text-whole}
use Rattle.writer.proofs.routines.write_lines.Goals as goal

pub overflow_mul-first : goal.overflow_mul-first
overflow_mul-first c =
    let a = c.args in
    let p = plan a.levels.now a.table.now in
    omega (arith, run_fits p a.runs.now c.requires.0 c.loop-run.run-index (omega arith))

pub overflow_add-first : goal.overflow_add-first
overflow_add-first c =
    let a = c.args in
    let p = plan a.levels.now a.table.now in
    omega (arith, run_fits p a.runs.now c.requires.0 c.loop-run.run-index (omega arith))

pub slice_bounds-write_line-end : goal.slice_bounds-write_line-end
slice_bounds-write_line-end c =
    let a = c.args in
    let p = plan a.levels.now a.table.now in
    omega (arith, run_inside p a.runs.now c.requires.0 c.loop-run.run-index (omega arith))

pub write_line-end-requires-in-loop-run : goal.write_line-end-requires-in-loop-run
write_line-end-requires-in-loop-run c =
    let a = c.args in
    let l = c.loop-run in
    let p = plan a.levels.now a.table.now in
    let rs = a.runs.now in
    let R = c.requires.0 in
    let left = text-left p rs R l.run-index c.requires.1 c.write_line-end.ensures l.invariant (omega arith) in
    rw (run-slice p rs R l.run-index (omega arith))
    (run_short p rs R l.run-index (omega arith), omega (arith, left, row-size p (get_or rs l.run-index 0)))

pub loop-run-preserved : goal.loop-run-preserved
loop-run-preserved c =
    let a = c.args in
    let l = c.loop-run in
    let p = plan a.levels.now a.table.now in
    let rs = a.runs.now in
    run-next p rs l.run-index (omega arith) l.invariant (rw (run-slice p rs c.requires.0 l.run-index (omega arith)) at c.write_line-end-in-loop-run.ensures)

pub returns : goal.returns
returns c =
    let a = c.args in
    let l = c.loop-run in
    text-whole (plan a.levels.now a.table.now) a.runs.now c.requires.0 l.run-index c.requires.1 c.write_line-end.ensures l.invariant (omega arith)
