-- The counts after the first are compared with it.
use Rattle.exact.proofs.Ground.{◌∙◌}
use Rattle.counts.proofs.Turns.{alike-others}
use Rattle.counts.proofs.routines.are_alike.Goals as goal

pub returns-in-len1-up : goal.returns-in-len1-up
returns-in-len1-up c = c.are.ensures ∙ alike-others c.args.counts.now c.in-len1-up.len_at_least
