-- A number takes the place of the least so far where it is smaller, and not below the bound.
use Rattle.exact.proofs.Ground.{arith}
use Rattle.tell_lines.proofs.Least.{least-lower, least-same, least-all}
use Rattle.tell_lines.proofs.routines.next_number.Goals as goal
use Rattle.tell_lines.proofs.routines.next_number.Goals.{then-low-number+then-number-next, else-low-number}
use Rattle.tell_lines.proofs.routines.next_number.Goals.{else-low-number-via-then-low-number+else-number-next, else-low-number-via-else-low-number}

pub loop-number-preserved : goal.loop-number-preserved
loop-number-preserved c =
    let xs = c.args.numbers.now in
    let k = c.loop-number.number-index in
    let L = c.loop-number.invariant in
    elim c.if-low-number.branch [
      | then-low-number+then-number-next w ↦ rw w.next-is
          (least-lower xs c.args.low c.args.end k L (omega arith) w.if-low-number.true w.if-number-next.true)
      | else-low-number w ↦ rw w.next-is
          (least-same xs c.args.low c.args.end k L (omega arith)
          (elim w.else-low-number.branch [
            | else-low-number-via-then-low-number+else-number-next v ↦ λ b. let n = v.if-number-next.false in omega (arith, b.1)
            | else-low-number-via-else-low-number v ↦ λ b. let n = v.if-low-number.false in omega (arith, b.0)
          ]))
    ]

pub returns : goal.returns
returns c = least-all c.args.numbers.now c.args.low c.args.end c.loop-number.number-index c.loop-number.next (omega arith) c.loop-number.invariant
