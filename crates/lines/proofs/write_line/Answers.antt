-- The room that is left behind the name and the first fields.
use Rattle.exact.proofs.Ground.{arith}
use Rattle.text.proofs.Puts.{put-none, put-kept}
use Rattle.lines.proofs.Lines.{field_next, line-left, line-whole}
use Rattle.lines.proofs.write_line.Goals as goal

pub loop-number-init : goal.loop-number-init
loop-number-init c =
    let w = c.write_bytes-end in
    put-none w.result w.new.room (omega (arith, w.ensures.fits, w.ensures.behind, put-kept w.ensures))

pub write_field-end-requires : goal.write_field-end-requires
write_field-end-requires c =
    let a = c.args in
    let l = c.loop-number in
    omega (arith, line-left a.name.now a.numbers.now l.number-index (omega arith) c.write_bytes-end.ensures l.invariant (omega arith))

pub loop-number-preserved : goal.loop-number-preserved
loop-number-preserved c =
    let l = c.loop-number in
    field_next c.args.numbers.now l.number-index (omega arith) l.invariant c.write_field-end.ensures

pub returns : goal.returns
returns c =
    let a = c.args in
    let l = c.loop-number in
    line-whole a.name.now a.numbers.now l.number-index (omega arith) c.write_bytes-end.ensures l.invariant (omega arith)
