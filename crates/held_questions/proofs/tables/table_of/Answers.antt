-- The table is that of the standing runs; where none stands nothing is written.
use Rattle.exact.proofs.Ground.{sym, ap, length}
use Rattle.rules.specs.Refusals.{refusal}
use Rattle.rules.proofs.Answered.{left-early, err-refused}
use Rattle.rules.proofs.Ranges.{unless-refused}
use Rattle.projection_tables.specs.Tables.{rooms, rooms_filled, rooms_beside, table_in, table_checks, table_answer, table_rooms}
use Rattle.held.specs.Held.{plan_in, standing_in, of_standing}
use Rattle.held.proofs.History.{words-standing}
use Rattle.held.proofs.Sizes.{sized}
use Rattle.held.proofs.Lent.{stops, runs-are, some-run, goes-on, asks-on}
use Rattle.held_questions.proofs.tables.table_of.Goals as goal

pub returns-in_err-runs-clause-answer : goal.returns-in_err-runs-clause-answer
unfolding table_answer
returns-in_err-runs-clause-answer c =
    let a = c.args in
    let h = a.held.now in
    let p = plan_in h in
    let rs = standing_in h in
    let R = rooms a.nums.now a.dens.now a.counts.now in
    left-early _ c.from_residual.ensures.1
    (stops h c.in_err-runs.ensures (table_checks p rs a.relative a.f R) (length (table_in a.relative p rs a.f)))

pub returns-in_err-runs-clause-rooms : goal.returns-in_err-runs-clause-rooms
unfolding table_rooms
returns-in_err-runs-clause-rooms c =
    let a = c.args in
    let h = a.held.now in
    let p = plan_in h in
    let rs = standing_in h in
    let R = rooms a.nums.now a.dens.now a.counts.now in
    let checks = table_checks p rs a.relative a.f R in
    let w = stops h c.in_err-runs.ensures checks (tt {0}) in
    sym (unless-refused (refusal (of_standing h checks)) R (rooms_filled (table_in a.relative p rs a.f) R) (err-refused _ tt w))

pub table_answer-requires : goal.table_answer-requires
table_answer-requires c =
    let h = c.args.held.now in
    let w = c.in_ok-runs.ensures in
    rw (c.levels.ensures, c.table.ensures, c.as_slice.ensures, runs-are h w)
    (record { tabled = record { sound = (sized c.requires).sound; some = some-run h w }; of-runs = λ _. words-standing c.requires })

pub returns-clause-answer : goal.returns-clause-answer
unfolding table_answer
returns-clause-answer c =
    let a = c.args in
    let h = a.held.now in
    let p = plan_in h in
    let rs = standing_in h in
    let R = rooms a.nums.now a.dens.now a.counts.now in
    let w = c.in_ok-runs.ensures in
    rw (c.table_answer.ensures.answer, c.levels.ensures, c.table.ensures, c.as_slice.ensures, runs-are h w)
    (sym (goes-on h w (table_checks p rs a.relative a.f R) (length (table_in a.relative p rs a.f))))

pub returns-clause-rooms : goal.returns-clause-rooms
unfolding table_rooms
returns-clause-rooms c =
    let a = c.args in
    let h = a.held.now in
    let p = plan_in h in
    let rs = standing_in h in
    let R = rooms a.nums.now a.dens.now a.counts.now in
    let w = c.in_ok-runs.ensures in
    rw (c.table_answer.ensures.rooms, c.levels.ensures, c.table.ensures, c.as_slice.ensures, runs-are h w)
    (ap (rooms_beside (table_in a.relative p rs a.f) R) (sym (asks-on h w (table_checks p rs a.relative a.f R))))
