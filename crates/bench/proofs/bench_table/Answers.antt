-- The lines are no more than the rooms have places.
use Rattle.exact.proofs.Ground.{◌∙◌, ap, arith}
use Rattle.exact.proofs.Bits.{of}
use Rattle.rules.specs.Plan.{plan, every_run}
use Rattle.rules.specs.Refusals.{of_plan, number_or}
use Rattle.projection_tables.specs.Tables.{rooms, table_checks, table_answer}
use Rattle.projection_tables.proofs.Answers.{plan-lines-fit}
use Rattle.bench.specs.Exports.{lines_in, table_number}
use Rattle.bench.proofs.Answers.{err-number}
use Rattle.bench.proofs.bench_table.Goals as goal

pub of_size-requires : goal.of_size-requires
of_size-requires c =
    let a = c.args in
    let p = plan a.levels.now a.table.now in
    let R = rooms a.nums.now a.dens.now a.counts.now in
    omega (arith, plan-lines-fit p (every_run p) a.relative a.f R c.in-Ok.ensures.answer, c.well_formed)

pub number_or-requires : goal.number_or-requires
unfolding table_answer
number_or-requires c =
    let a = c.args in
    let p = plan a.levels.now a.table.now in
    let R = rooms a.nums.now a.dens.now a.counts.now in
    err-number _ (of_plan p (table_checks p (every_run p) a.relative a.f R)) c.in-Err.ensures.answer

pub returns-in-Ok-clause-answer : goal.returns-in-Ok-clause-answer
unfolding table_number
returns-in-Ok-clause-answer c =
    of c.of_size.result c.of_size.type_inv ∙ c.of_size.ensures ∙ ap (λ a. number_or (lines_in a)) c.in-Ok.ensures.answer

pub returns-in-Err-clause-answer : goal.returns-in-Err-clause-answer
unfolding table_number
returns-in-Err-clause-answer c =
    of c.number_or.result c.number_or.type_inv ∙ c.number_or.ensures ∙ ap (λ a. number_or (lines_in a)) c.in-Err.ensures.answer
