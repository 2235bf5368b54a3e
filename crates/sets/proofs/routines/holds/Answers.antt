-- The library asks each number in turn.
use Rattle.exact.proofs.Ground.{◌∙◌}
use Rattle.sets.proofs.Holding.{any-holds}
use Rattle.sets.proofs.routines.holds.Goals as goal

pub returns : goal.returns
returns c = c.contains.ensures.value ∙ any-holds c.args.column c.args.columns.now
