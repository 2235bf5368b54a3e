-- The standing runs of a held plan are sound, and so is each of its runs.
use Rattle.held.proofs.Sizes.{sized}
use Rattle.held.proofs.measures.row_of.Goals as goal

pub row-requires : goal.row-requires
row-requires c =
    let S = sized c.requires.0 in
    rw (c.levels.ensures, c.table.ensures, c.as_slice.ensures, c.standing_numbers-standing.ensures) (S.sound, S.each c.args.run c.requires.1)
