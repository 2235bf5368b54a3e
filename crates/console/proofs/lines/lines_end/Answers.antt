-- Each byte is passed in its line.
use Rattle.std.proofs.Common.{arith}
use Rattle.console.proofs.LinesEnd.{lines-passed, all-passed, line-passed, other-passed}
use Rattle.console.proofs.lines.lines_end.Goals as goal
use Rattle.console.proofs.lines.lines_end.Goals.{then-byte-eq-LINE_FEED, else-byte-eq-LINE_FEED}

pub returns-then-left-eq0-clause-bytes : goal.returns-then-left-eq0-clause-bytes
returns-then-left-eq0-clause-bytes c = lines-passed c.loop-at.invariant c.if-left-eq0.true

pub loop-at-preserved : goal.loop-at-preserved
loop-at-preserved c =
    let P = c.loop-at.invariant in
    elim c.if-byte-eq-LINE_FEED.branch [
      | then-byte-eq-LINE_FEED w ↦ rw w.left-is (line-passed P (omega arith) c.if-left-eq0.false w.if-byte-eq-LINE_FEED.true)
      | else-byte-eq-LINE_FEED w ↦ rw w.left-is (other-passed P (omega arith) c.if-left-eq0.false w.if-byte-eq-LINE_FEED.false)
    ]

pub returns-clause-bytes : goal.returns-clause-bytes
returns-clause-bytes c = all-passed c.loop-at.invariant (omega arith)
