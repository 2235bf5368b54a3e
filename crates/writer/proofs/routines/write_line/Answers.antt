-- The room that is left behind the first number and the later ones.
use Rattle.exact.proofs.Ground.{◌≡◌, ◌-◌, arith, length, length-set}
use Rattle.text.proofs.Puts.{put-none, put-kept}
use Rattle.writer.proofs.LineWriting.{two_digits, put-first, later-size, later-few, later-short, put-later, line-left, put-line}
use Rattle.writer.proofs.routines.write_line.Goals as goal

pub write_number-end-requires : goal.write_number-end-requires
write_number-end-requires c =
    let S = c.requires.0 in
    omega (arith, S.some, two_digits c.from.result (rw c.from.ensures (S.small 0 S.some)))

pub loop-number-init : goal.loop-number-init
loop-number-init c =
    let w = c.write_number-end in
    let P = put-first c.requires.0 c.requires.1 c.from.ensures w.ensures.next w.ensures.room in
    put-none w.result w.new.room (omega (arith, P.fits, P.behind, put-kept P))

pub bounds-room-end : goal.bounds-room-end
bounds-room-end c =
    let l = c.loop-number in
    let w = c.write_number-end in
    let few = later-few c.requires.0 l.number-index c.loop-number-test.true in
    let P = put-first c.requires.0 c.requires.1 c.from.ensures w.ensures.next w.ensures.room in
    omega (arith, line-left c.args.numbers.now l.number-index c.requires.1 (omega arith) P l.invariant)

pub write_number-end-requires-in-loop-number : goal.write_number-end-requires-in-loop-number
write_number-end-requires-in-loop-number c =
    let l = c.loop-number in
    let w = c.write_number-end in
    let few = later-few c.requires.0 l.number-index c.loop-number-test.true in
    let P = put-first c.requires.0 c.requires.1 c.from.ensures w.ensures.next w.ensures.room in
    let short = later-short c.requires.0 l.number-index c.loop-number-test.true c.from-in-loop-number.ensures in
    omega (
      arith,
      line-left c.args.numbers.now l.number-index c.requires.1 (omega arith) P l.invariant,
      two_digits c.from-in-loop-number.result short,
      length-set l.room l.end 44,
    )

pub loop-number-preserved : goal.loop-number-preserved
loop-number-preserved c =
    let l = c.loop-number in
    let w = c.write_number-end in
    let n = c.write_number-end-in-loop-number.ensures in
    let few = later-few c.requires.0 l.number-index c.loop-number-test.true in
    let P = put-first c.requires.0 c.requires.1 c.from.ensures w.ensures.next w.ensures.room in
    put-later c.requires.0 l.number-index c.loop-number-test.true c.from-in-loop-number.ensures l.invariant
    (omega (arith, line-left c.args.numbers.now l.number-index c.requires.1 (omega arith) P l.invariant)) n.next n.room

pub bounds-room-end-2 : goal.bounds-room-end-2
bounds-room-end-2 c =
    let l = c.loop-number in
    let xs = c.args.numbers.now in
    let w = c.write_number-end in
    let P = put-first c.requires.0 c.requires.1 c.from.ensures w.ensures.next w.ensures.room in
    omega (arith, line-left xs l.number-index c.requires.1 (omega (arith, later-size xs, c.requires.0.some)) P l.invariant)

pub returns : goal.returns
returns c =
    let l = c.loop-number in
    let xs = c.args.numbers.now in
    let w = c.write_number-end in
    let P = put-first c.requires.0 c.requires.1 c.from.ensures w.ensures.next w.ensures.room in
    let e : l.number-index ≡ length xs - 1 = omega (arith, later-size xs) in
    put-line c.requires.0 P (rw e at l.invariant)
    (omega (arith, line-left xs l.number-index c.requires.1 (omega (arith, later-size xs, c.requires.0.some)) P l.invariant))
