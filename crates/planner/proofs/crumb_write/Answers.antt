-- The library's answer; no text of a plan is long.
use Rattle.exact.proofs.Ground.{◌∙◌, ap, ◌<◌, ◌^◌, arith, length}
use Rattle.exact.proofs.Bits.{of}
use Rattle.rules.specs.Plan.{plan, every_run}
use Rattle.rules.specs.Refusals.{of_plan, number_or}
use Rattle.writer.specs.Writer.{write_answer}
use Rattle.writer.proofs.Writes.{write-few}
use Rattle.text.specs.Bytes.{sized}
use Rattle.planner.specs.Calls.{written}
use Rattle.planner.proofs.Sizes.{in-answer}
use Rattle.planner.proofs.Calls.{call-number}
use Rattle.planner.proofs.crumb_write.Goals as goal

pub size_or-requires-clause-few : goal.size_or-requires-clause-few
size_or-requires-clause-few c =
    let a = c.args in
    let p = plan a.levels.now a.table.now in
    rw c.write.ensures.answer
    (in-answer (write_answer p (every_run p) (of_plan p) (length a.room.now)) (λ n. n < 2 ^ 63)
    (λ n w. omega (arith, write-few p (length a.room.now) w)))

pub size_or-requires-clause-known : goal.size_or-requires-clause-known
size_or-requires-clause-known c =
    let a = c.args in rw c.write.ensures.answer (call-number (written (plan a.levels.now a.table.now) (length a.room.now)))

pub returns-clause-answer : goal.returns-clause-answer
returns-clause-answer c =
    of c.size_or.result c.size_or.type_inv ∙ c.size_or.ensures ∙ ap (λ x. number_or (sized x)) c.write.ensures.answer
