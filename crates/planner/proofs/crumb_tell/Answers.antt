-- The library's answer.
use Rattle.exact.proofs.Ground.{◌∙◌, ap}
use Rattle.exact.proofs.Bits.{of}
use Rattle.rules.specs.Plan.{plan}
use Rattle.rules.specs.Refusals.{number_or}
use Rattle.text.specs.Bytes.{sized}
use Rattle.tell_marked.specs.TellMarked.{tell_number}
use Rattle.planner.specs.Calls.{tell-marked}
use Rattle.planner.proofs.Calls.{call-number}
use Rattle.planner.proofs.crumb_tell.Goals as goal

pub size_or-requires-clause-known : goal.size_or-requires-clause-known
size_or-requires-clause-known c =
    let a = c.args in
    rw c.tell_marked.ensures.answer
    (call-number (tell-marked (plan a.levels.now a.table.now) a.standing.now a.column a.others.now a.room.now))

pub returns-clause-answer : goal.returns-clause-answer
unfolding tell_number
returns-clause-answer c =
    of c.size_or.result c.size_or.type_inv ∙ c.size_or.ensures ∙ ap (λ x. number_or (sized x)) c.tell_marked.ensures.answer
