-- The fields in front are the numbers.
use Rattle.exact.proofs.Ground.{refl, ap, arith, length}
use Rattle.text.proofs.Puts.{put_as}
use Rattle.lines.specs.Lines.{line_of}
use Rattle.tell_lines.specs.Parts.{most_fields}
use Rattle.tell_lines.proofs.Rows.{begun-next, begun-front}
use Rattle.tell_lines.proofs.routines.write_numbers.Goals as goal

pub loop-k-preserved : goal.loop-k-preserved
loop-k-preserved c = begun-next c.args.numbers.now most_fields c.loop-k.k _ (omega arith) c.requires.few c.loop-k.invariant refl

pub returns : goal.returns
returns c =
    let e = begun-front c.args.numbers.now most_fields c.loop-k.k (omega arith) c.loop-k.invariant in
    put_as (ap (line_of c.args.name.now) e) (omega (arith, ap length e)) c.write_line.ensures
