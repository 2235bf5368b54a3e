-- The rooms of its own hold a line for every set.
use Rattle.exact.proofs.Ground.{length}
use Rattle.projection_tables.proofs.Walks.{few-sets}
use Rattle.projection_tables.proofs.routines.in_own_rooms.Goals as goal

pub tabulate-lines-requires : goal.tabulate-lines-requires
tabulate-lines-requires c =
    let few = few-sets (length c.args.levels.now) c.args.f c.requires.0.sound.columns-high c.requires.1 in
    (c.requires.0, (c.requires.1, record { nums-wide = few; dens-wide = few; counts-wide = few }))
