-- The bytes of the library's answer.
use Rattle.exact.proofs.Ground.{length}
use Rattle.rules.specs.Refusals.{largest_number}
use Rattle.planner.specs.Calls.{rewritten}
use Rattle.planner.proofs.Sizes.{map-number}
use Rattle.planner.proofs.Calls.{call-number}
use Rattle.planner.proofs.crumb_rewrite.Goals as goal

pub size_or-requires-clause-known : goal.size_or-requires-clause-known
size_or-requires-clause-known c =
    let a = c.args in
    map-number c.rewrite.result c.map.result largest_number _ c.map.ensures.cases
    (rw c.rewrite.ensures.answer (call-number (rewritten a.text.now a.lost.now (length a.room.now) (length a.numbers.now))))
