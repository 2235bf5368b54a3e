-- The run at the place kept is the best of those looked at.
use Rattle.exact.proofs.Ground.{◌<◌, get_or}
use Rattle.best.specs.Best.{lowest}
use Rattle.best.proofs.Best.{BestSoFar}
use Rattle.rules.specs.Plan.{plan}
use Rattle.advice.specs.Advice.{loss_order}
use Rattle.advice.proofs.routines.advice.Given as goal

abbrev pub invariant-loop-i : goal.invariant-loop-i
invariant-loop-i l = (l.best < l.i) × BestSoFar lowest (loss_order (plan l.levels l.table) l.runs) 0 l.runs (get_or l.runs l.best 0) l.i
