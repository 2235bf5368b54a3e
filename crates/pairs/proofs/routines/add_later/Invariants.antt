-- The total has gained the sums of the pairs with the later runs passed.
use Rattle.exact.proofs.Ground.{◌≡◌, ◌-◌, ◌+◌, take, drop}
use Rattle.rules.specs.Plan.{plan, every_run}
use Rattle.pairs.specs.Given.{added}
use Rattle.pairs.proofs.Totals.{totals}
use Rattle.pairs.proofs.OfPlan.{of_pair}
use Rattle.pairs.proofs.routines.add_later.Given as goal

abbrev pub invariant-loop-g : goal.invariant-loop-g
invariant-loop-g l =
    let p = plan l.levels l.table in
    l.total ≡ added l.initial.total (totals (of_pair p l.f) (take (l.g - (l.f + 1)) (drop (l.f + 1) (every_run p))))
