-- Each turn stores the line in front of what is left of the text.
use Rattle.exact.proofs.Ground.{arith}
use Rattle.text.proofs.TextLoop.{first-unread, first_read, next-unread, next-read, all_read, unread}
use Rattle.text.proofs.reading.read_lines.Goals as goal

pub returns-in_err-levels : goal.returns-in_err-levels
returns-in_err-levels c =
    let e = c.in_err-levels.ensures in
    unread {n = 1} (omega arith) (first-unread (rw e.ok_part at c.read_line.ensures)) c.malformed_in.ensures
    c.from_residual.result c.from_residual.ensures.1 e.value e.ok_part

pub loop-at-init : goal.loop-at-init
loop-at-init c = first_read (rw c.in_ok-levels.ensures.ok_part at c.read_line.ensures)

pub returns-in_err-run : goal.returns-in_err-run
returns-in_err-run c =
    let e = c.in_err-run.ensures in
    let S = c.loop-at.invariant in
    unread S.low (next-unread S (rw e.ok_part at c.read_line-in-loop-at.ensures) c.loop-at-test.true) c.malformed_in-in-loop-at.ensures
    c.from_residual-in_err-run.result c.from_residual-in_err-run.ensures.1 e.value e.ok_part

pub loop-at-preserved : goal.loop-at-preserved
loop-at-preserved c =
    next-read c.loop-at.invariant (rw c.in_ok-run.ensures.ok_part at c.read_line-in-loop-at.ensures) c.if-run-count.false

pub returns : goal.returns
returns c =
    let S = c.loop-at.invariant in
    all_read S (let i = S.roomy.inside in omega arith)
