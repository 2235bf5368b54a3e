-- The numbers of the cells are those of the runs, and end at the product of the levels.
use Rattle.exact.proofs.Ground.{◌≡◌, ◌∙◌, ap, arith}
use native.Mathlib.Nat.{min-eq_left}
use Rattle.rules.specs.Plan.{plan, level}
use Rattle.counts.specs.Numbered.{product_of}
use Rattle.text.proofs.Puts.{put_as}
use Rattle.tell_lines.specs.Parts.{cell_lines_to}
use Rattle.tell_lines.proofs.routines.write_split.Goals as goal

pub returns : goal.returns
returns c =
    let a = c.args in
    let p = plan a.levels.now a.table.now in
    let e : c.product_of-end.result ≡ product_of (level p) a.others.now =
    c.product_of-end.ensures ∙ min-eq_left (omega (arith, c.requires.fact.1.small)) in
    rw c.if-tells.false (put_as (ap (cell_lines_to p a.runs.now a.column a.others.now a.groups.now) e) (omega arith) c.write_cells.ensures)
