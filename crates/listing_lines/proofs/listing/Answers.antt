-- The lines stand in front of the local room, and go to the lent one where they fit.
use Rattle.exact.proofs.Ground.{arith}
use Rattle.text.proofs.Puts.{front-taken}
use Rattle.listing_lines.proofs.Answers.{by_room}
use Rattle.listing_lines.proofs.listing.Goals as goal

pub returns-clause-room : goal.returns-clause-room
returns-clause-room c =
    let lines = front-taken c.write_listing-bytes.ensures in
    let stored = c.copy.ensures in
    grind (arith, by_room, lines, stored)
