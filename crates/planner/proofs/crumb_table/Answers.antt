-- The library's answer; the lines are no more than the rooms have places.
use Rattle.exact.proofs.Ground.{[], ◌∙◌, sym, ap, ◌<◌, ◌^◌, arith}
use Rattle.exact.proofs.Bits.{of}
use Rattle.rules.specs.Plan.{plan}
use Rattle.rules.specs.Refusals.{refusal, number_or}
use Rattle.projection_tables.specs.Tables.{rooms, table_checks, table_answer}
use Rattle.projection_tables.proofs.Answers.{lines_fit}
use Rattle.marked.specs.Marked.{marked_runs, of_marked}
use Rattle.marked.proofs.Beginnings.{begun-handed}
use Rattle.text.specs.Bytes.{sized}
use Rattle.planner.specs.Exports.{is_relative}
use Rattle.planner.specs.Calls.{table-marked}
use Rattle.planner.proofs.Sizes.{in-answer}
use Rattle.planner.proofs.Calls.{call-number}
use Rattle.planner.proofs.crumb_table.Goals as goal

pub size_or-requires-clause-few : goal.size_or-requires-clause-few
size_or-requires-clause-few c =
    let a = c.args in
    let p = plan a.levels.now a.table.now in
    let marks = a.standing.now in
    let relative = is_relative a.relative in
    let R = rooms a.nums.now a.dens.now a.counts.now in
    let rs = marked_runs p marks in
    let handed = begun-handed p marks (table_checks p rs relative a.size R) tt in
    rw c.table_marked.ensures.answer (in-answer (table_answer p rs (of_marked p marks) relative a.size R) (λ n. n < 2 ^ 63) (λ n w.
    omega (arith, lines_fit p rs relative a.size R (of_marked p marks) (refusal (of_marked p marks [])) (sym handed) w, c.well_formed)))

pub size_or-requires-clause-known : goal.size_or-requires-clause-known
size_or-requires-clause-known c =
    let a = c.args in
    rw c.table_marked.ensures.answer
    (call-number (table-marked (plan a.levels.now a.table.now) a.standing.now (is_relative a.relative) a.size (rooms a.nums.now a.dens.now a.counts.now)))

pub returns-clause-answer : goal.returns-clause-answer
returns-clause-answer c =
    of c.size_or.result c.size_or.type_inv ∙ c.size_or.ensures ∙ ap (λ x. number_or (sized x)) c.table_marked.ensures.answer
