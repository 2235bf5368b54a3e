-- Levels of one group decide without the cells.
use Rattle.exact.proofs.Ground.{[], ◌∷◌, mem-head, refl, arith}
use Rattle.rules.specs.Plan.{plan}
use Rattle.tell.proofs.OfPlan.{below-16}
use Rattle.tell.proofs.Turns.{asked-run}
use Rattle.tell.proofs.walk.joins_groups.Goals as goal

pub level_of-requires : goal.level_of-requires
level_of-requires c =
    let a = c.args in
    asked-run (plan a.levels.now a.table.now) (a.f ∷ a.g ∷ []) a.column a.others.now c.requires.asked 1 (omega arith)

pub bounds-groups-x : goal.bounds-groups-x
bounds-groups-x c =
    let a = c.args in
    omega (
      arith,
      c.requires.x_value,
      below-16 (plan a.levels.now a.table.now) (a.f ∷ a.g ∷ []) a.column a.others.now c.requires.asked a.f (mem-head refl),
    )
