-- Before column i those of the first i columns are taken that have several levels.
use Rattle.exact.proofs.Ground.{◌≡◌}
use Rattle.plan.proofs.Several.{several_to}
use Rattle.plan.proofs.routines.several_levels.Given as goal

abbrev pub invariant-loop-i : goal.invariant-loop-i
invariant-loop-i l = l.columns ≡ several_to l.levels l.i
