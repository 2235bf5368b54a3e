-- The library's answer.
use Rattle.exact.proofs.Ground.{◌∙◌, ap}
use Rattle.exact.proofs.Bits.{of}
use Rattle.rules.specs.Refusals.{number_or}
use Rattle.listing_lines.specs.Listing.{planner_listing}
use Rattle.text.specs.Bytes.{sized}
use Rattle.planner.specs.Calls.{listed}
use Rattle.planner.proofs.Calls.{call-number}
use Rattle.planner.proofs.crumb_listing.Goals as goal

pub size_or-requires-clause-known : goal.size_or-requires-clause-known
size_or-requires-clause-known c = let a = c.args in rw c.listing.ensures.answer (call-number (listed a.text.now a.room.now))

pub returns-clause-answer : goal.returns-clause-answer
unfolding planner_listing
returns-clause-answer c =
    of c.size_or.result c.size_or.type_inv ∙ c.size_or.ensures ∙ ap (λ x. number_or (sized x)) c.listing.ensures.answer
