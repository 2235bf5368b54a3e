-- The one line of what refuses the table, or its head and a line for each value.
use Rattle.exact.proofs.Ground.{◌∙◌, arith}
use Rattle.rules.specs.Plan.{plan}
use Rattle.text.proofs.Puts.{put_as, put_both}
use Rattle.table_lines.proofs.Held.{refused-lines, given-few, given-lines}
use Rattle.table_lines.proofs.routines.write_table.Goals as goal

pub returns-in-Err-clause-answer : goal.returns-in-Err-clause-answer
returns-in-Err-clause-answer c =
    let a = c.args in
    c.write_refused.ensures.answer
    ∙ refused-lines (plan a.levels.now a.table.now) a.runs.now a.relative a.f c.requires.ranked.tabled c.in-Err.ensures.answer

pub returns-clause-bytes : goal.returns-clause-bytes
returns-clause-bytes c =
    let a = c.args in
    let p = plan a.levels.now a.table.now in
    let G = c.requires.ranked.tabled in
    let e = c.in-Ok.ensures in
    put_as (given-lines p a.runs.now a.relative a.f G e.answer e.rooms) (omega (arith, given-few p a.runs.now a.relative a.f G e.answer e.rooms))
    (put_both c.write_head-head.ensures c.write_values-bytes.ensures)
