-- The levels are the front of their room.
use Rattle.held.proofs.Sizes.{sized}
use Rattle.held.proofs.Held.levels.Goals as goal

pub shared_ref_as_front-result : goal.shared_ref_as_front-result
shared_ref_as_front-result c = (sized c.requires).columns-high
