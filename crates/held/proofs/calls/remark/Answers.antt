-- The words changed by one row sum are those of the runs that then stand.
use Rattle.exact.proofs.Ground.{arith}
use Rattle.held.specs.Held.{remarked}
use Rattle.held.proofs.Sizes.{sized}
use Rattle.held.proofs.Lent.{factor-is, change-small, changed-held}
use Rattle.held.proofs.calls.remark.Goals as goal

pub changed_words-held-requires : goal.changed_words-held-requires
changed_words-held-requires c =
    rw (c.factor.ensures, factor-is c.args.stands, c.row_of-row.ensures, c.diagonal_of-diagonal.ensures) (change-small c.requires)

pub bounds-held-run : goal.bounds-held-run
bounds-held-run c = omega (arith, c.requires.there, (sized c.requires.held).runs-high)

pub returns : goal.returns
unfolding remarked
returns c =
    rw (
      c.changed_words-held.ensures,
      c.factor.ensures,
      factor-is c.args.stands,
      c.row_of-row.ensures,
      c.diagonal_of-diagonal.ensures,
      changed-held c.requires,
    )
