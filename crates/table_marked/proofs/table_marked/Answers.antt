-- The call goes on with the runs that stand; where it begins with a refusal, it stops before its own checks.
use Rattle.exact.proofs.Ground.{◌∙◌, sym, ap, length}
use Rattle.rules.specs.Plan.{plan}
use Rattle.rules.specs.Refusals.{refusal, answered}
use Rattle.rules.proofs.Answered.{left-early, err-refused}
use Rattle.rules.proofs.Ranges.{unless-refused}
use Rattle.marked.specs.Marked.{marked_runs, of_marked}
use Rattle.marked.proofs.MarkedRuns.{marked-stops, marked-are, runs-sound, runs-stand, marked-asks}
use Rattle.projection_tables.specs.Tables.{rooms, table_in, table_checks, table_answer, table_rooms, rooms_beside, rooms_filled}
use Rattle.table_marked.proofs.table_marked.Goals as goal

pub words_wanted-words-requires : goal.words_wanted-words-requires
words_wanted-words-requires c =
    rw c.as_slice-runs.ensures (runs-sound (plan c.args.levels.now c.args.table.now) c.args.marks.now c.in_ok-standing.ensures)

pub table_answer-requires : goal.table_answer-requires
table_answer-requires c =
    let p = plan c.args.levels.now c.args.table.now in
    let w = c.in_ok-standing.ensures in
    record {
      tabled = record {
        sound = rw c.as_slice-runs.ensures (runs-sound p c.args.marks.now w);
        some = rw c.as_slice-runs.ensures (runs-stand p c.args.marks.now w);
      };
      of-runs = c.words_wanted-words.ensures;
    }

pub returns-in_err-standing-clause-answer : goal.returns-in_err-standing-clause-answer
unfolding table_answer
returns-in_err-standing-clause-answer c =
    let a = c.args in
    let p = plan a.levels.now a.table.now in
    let rs = marked_runs p a.marks.now in
    let R = rooms a.nums.now a.dens.now a.counts.now in
    left-early _ c.from_residual.ensures.1
    (marked-stops p a.marks.now c.in_err-standing.ensures (table_checks p rs a.relative a.f R) tt (length (table_in a.relative p rs a.f)))

pub returns-in_err-standing-clause-rooms : goal.returns-in_err-standing-clause-rooms
unfolding table_rooms
returns-in_err-standing-clause-rooms c =
    let a = c.args in
    let p = plan a.levels.now a.table.now in
    let rs = marked_runs p a.marks.now in
    let R = rooms a.nums.now a.dens.now a.counts.now in
    let r = refusal (of_marked p a.marks.now (table_checks p rs a.relative a.f R)) in
    let k = length (table_in a.relative p rs a.f) in
    sym (unless-refused r R (rooms_filled (table_in a.relative p rs a.f) R)
    (err-refused r k (marked-stops p a.marks.now c.in_err-standing.ensures (table_checks p rs a.relative a.f R) tt k)))

pub returns-clause-answer : goal.returns-clause-answer
unfolding table_answer
returns-clause-answer c =
    let a = c.args in
    let p = plan a.levels.now a.table.now in
    let rs = marked_runs p a.marks.now in
    let R = rooms a.nums.now a.dens.now a.counts.now in
    let w = c.in_ok-standing.ensures in
    c.table_answer.ensures.answer
    ∙ ap (λ rs. answered (refusal (table_checks p rs a.relative a.f R)) (length (table_in a.relative p rs a.f)))
    (c.as_slice-runs.ensures ∙ marked-are p a.marks.now w)
    ∙ ap (λ r. answered r (length (table_in a.relative p rs a.f))) (sym (marked-asks p a.marks.now w (table_checks p rs a.relative a.f R) tt))

pub returns-clause-rooms : goal.returns-clause-rooms
unfolding table_rooms
returns-clause-rooms c =
    let a = c.args in
    let p = plan a.levels.now a.table.now in
    let rs = marked_runs p a.marks.now in
    let R = rooms a.nums.now a.dens.now a.counts.now in
    let w = c.in_ok-standing.ensures in
    c.table_answer.ensures.rooms
    ∙ ap (λ rs. rooms_beside (table_in a.relative p rs a.f) R (refusal (table_checks p rs a.relative a.f R)))
    (c.as_slice-runs.ensures ∙ marked-are p a.marks.now w)
    ∙ ap (rooms_beside (table_in a.relative p rs a.f) R) (sym (marked-asks p a.marks.now w (table_checks p rs a.relative a.f R) tt))
