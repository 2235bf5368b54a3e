-- The total is that of the runs passed.
use Rattle.exact.proofs.Ground.{◌≡◌, take}
use Rattle.rules.specs.Plan.{plan}
use Rattle.pairs.proofs.Totals.{totals}
use Rattle.pairs.proofs.OfPlan.{of_pair}
use Rattle.pairs.proofs.routines.row.Given as goal

abbrev pub invariant-loop-g : goal.invariant-loop-g
invariant-loop-g l = l.total ≡ totals (of_pair (plan l.levels l.table) l.f) (take l.g-index l.runs)
