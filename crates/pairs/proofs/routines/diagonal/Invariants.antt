-- The sums are those over the columns passed.
use Rattle.exact.proofs.Ground.{[], ◌≡◌}
use Rattle.rules.specs.Plan.{plan}
use Rattle.pairs.proofs.Columns.{so_far}
use Rattle.pairs.proofs.OfPlan.{less_one}
use Rattle.pairs.proofs.routines.diagonal.Given as goal

abbrev pub invariant-loop-i : goal.invariant-loop-i
invariant-loop-i l = l.sums ≡ so_far (less_one (plan l.levels [])) l.i
