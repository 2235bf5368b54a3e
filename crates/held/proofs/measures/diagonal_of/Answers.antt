-- The levels of a held plan are those of an accepted one.
use Rattle.held.specs.Held.{plan_in, standing_in}
use Rattle.words.proofs.OfPlan.{sound-levels}
use Rattle.held.proofs.Sizes.{sized}
use Rattle.held.proofs.measures.diagonal_of.Goals as goal

pub diagonal-requires : goal.diagonal-requires
diagonal-requires c =
    let h = c.args.held.now in
    rw c.levels.ensures (sound-levels (plan_in h) (standing_in h) (sized c.requires).sound)
