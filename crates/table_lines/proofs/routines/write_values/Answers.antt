-- The first k lines are put in.
use Rattle.exact.proofs.Ground.{[], ◌∷◌, ◌≡◌, sym, ap, arith, get_or, get_or-take, length-take-le}
use Rattle.exact.specs.Lists.{from}
use Rattle.projection_tables.specs.Tables.{rooms, line_at}
use Rattle.text.proofs.Puts.{put_as}
use Rattle.text.specs.Bytes.{bytes}
use Rattle.lines.specs.Lines.{line_of}
use Rattle.lines.proofs.Lines.{each-put, each_map}
use Rattle.table_lines.specs.TableLines.{value_line}
use Rattle.table_lines.proofs.routines.write_values.Goals as goal

pub loop-k-preserved : goal.loop-k-preserved
loop-k-preserved c =
    let R = rooms c.args.nums.now c.args.dens.now c.args.counts.now in
    let k = c.loop-k.k in
    let e = get_or-take c.args.lines c.args.nums.now k 0 (omega (arith, length-take-le c.args.lines c.args.nums.now c.requires.0.nums-wide)) in
    each-put (λ i. value_line (line_at R i)) 69 k c.loop-k.invariant
    (put_as (ap (λ x. line_of (bytes "value") (x ∷ get_or c.args.dens.now k 0 ∷ get_or c.args.counts.now k 0 ∷ [])) e) (omega arith) c.write_line-end.ensures)

pub returns : goal.returns
returns c =
    let R = rooms c.args.nums.now c.args.dens.now c.args.counts.now in
    let e : c.loop-k.k ≡ c.args.lines = omega (arith, length-take-le c.args.lines c.args.nums.now c.requires.0.nums-wide) in
    rw (← e) (put_as (sym (each_map (line_at R) value_line (from 0 c.loop-k.k))) (omega arith) c.loop-k.invariant)
