-- The parts stand one behind the other.
use Rattle.exact.proofs.Ground.{arith}
use Rattle.rules.specs.Plan.{plan}
use Rattle.text.proofs.Puts.{put_as, put_both, put-kept}
use Rattle.tell_lines.proofs.Evidence.{linked}
use Rattle.tell_lines.proofs.Whole.{whole, joins-are}
use Rattle.tell_lines.proofs.routines.write_answer.Goals as goal

pub write_pairs-paired-requires : goal.write_pairs-paired-requires
write_pairs-paired-requires c =
    let a = c.args in
    let p = plan a.levels.now a.table.now in
    let A = c.requires.fact in
    let L = linked p a.runs.now a.column a.others.now A.asked (joins-are p a.runs.now a.column a.others.now A) in
    let P = put_both (put_both (put_both c.write_asked-asked.ensures c.write_told-answered.ensures) c.write_line-worded.ensures)
    c.write_levels-grouped.ensures in
    (L, omega (arith, c.requires.most_bytes_in_bounds, L.few, P.behind, P.short, put-kept P))

pub write_split-requires-clause-runs_in_bounds : goal.write_split-requires-clause-runs_in_bounds
write_split-requires-clause-runs_in_bounds c =
    let a = c.args in
    let p = plan a.levels.now a.table.now in
    let A = c.requires.fact in
    let L = linked p a.runs.now a.column a.others.now A.asked (joins-are p a.runs.now a.column a.others.now A) in
    let P = put_both (put_both (put_both (put_both c.write_asked-asked.ensures c.write_told-answered.ensures) c.write_line-worded.ensures)
    c.write_levels-grouped.ensures) c.write_pairs-paired.ensures in
    omega (arith, c.requires.most_bytes_in_bounds, L.few, A.asked.sound.few, P.behind, P.short, put-kept P)

pub returns : goal.returns
returns c =
    let a = c.args in
    let p = plan a.levels.now a.table.now in
    let A = c.requires.fact in
    let L = linked p a.runs.now a.column a.others.now A.asked (joins-are p a.runs.now a.column a.others.now A) in
    put_as (whole p a.runs.now a.column a.others.now A) (omega (arith, L.few, A.asked.sound.few))
    (put_both (put_both (put_both (put_both (put_both c.write_asked-asked.ensures c.write_told-answered.ensures) c.write_line-worded.ensures)
    c.write_levels-grouped.ensures) c.write_pairs-paired.ensures) c.write_split.ensures)
