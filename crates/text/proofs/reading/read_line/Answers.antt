-- Each turn stores the number in front of what is left of the line.
use Rattle.exact.proofs.Ground.{◌∙◌, sym, arith, set}
use Rattle.text.proofs.Front.{number-inside}
use Rattle.text.proofs.LineLoop.{room-left, room-length, line-goes-on, line-ends, no_number, no-separator}
use Rattle.text.proofs.reading.read_line.Goals as goal

pub returns-in_err-number : goal.returns-in_err-number
returns-in_err-number c = rw c.from_residual.ensures (no_number c.loop-number.invariant c.in_err-number.ensures c.loop-number.numbers)

pub overflow_add-at : goal.overflow_add-at
overflow_add-at c =
    let l = c.loop-number in
    omega (arith, number-inside c.args.text.now l.at c.in_ok-number.number l.invariant.roomy.inside c.in_ok-number.ensures)

pub bounds-numbers-count : goal.bounds-numbers-count
bounds-numbers-count c =
    let l = c.loop-number in
    let t = number-inside c.args.text.now l.at c.in_ok-number.number l.invariant.roomy.inside c.in_ok-number.ensures in
    rw (room-length l.invariant) (room-left l.invariant (omega (arith, t)))

pub overflow_add-at-in-loop-number : goal.overflow_add-at-in-loop-number
overflow_add-at-in-loop-number c =
    let l = c.loop-number in
    omega (arith, number-inside c.args.text.now l.at c.in_ok-number.number l.invariant.roomy.inside c.in_ok-number.ensures)

pub overflow_add-at-in-loop-number-2 : goal.overflow_add-at-in-loop-number-2
overflow_add-at-in-loop-number-2 c =
    let l = c.loop-number in
    omega (arith, number-inside c.args.text.now l.at c.in_ok-number.number l.invariant.roomy.inside c.in_ok-number.ensures)

pub returns-then-after-eq-LINE_FEED : goal.returns-then-after-eq-LINE_FEED
returns-then-after-eq-LINE_FEED c =
    line-ends c.loop-number.invariant c.in_ok-number.ensures (sym c.byte_at-after.ensures ∙ c.if-after-eq-LINE_FEED.true)

pub returns-then-after-ne-COMMA : goal.returns-then-after-ne-COMMA
returns-then-after-ne-COMMA c =
    let l = c.loop-number in
    no-separator l.invariant c.in_ok-number.number c.in_ok-number.ensures
    (λ e. c.if-after-ne-COMMA.true (c.byte_at-after.ensures ∙ e)) (λ e. c.if-after-eq-LINE_FEED.false (c.byte_at-after.ensures ∙ e))
    (set l.numbers l.count c.in_ok-number.number.value)

pub loop-number-preserved : goal.loop-number-preserved
loop-number-preserved c =
    line-goes-on c.loop-number.invariant c.in_ok-number.ensures (sym c.byte_at-after.ensures ∙ c.if-after-ne-COMMA.false)
