-- The pairs with the later runs passed are counted or added.
use Rattle.exact.proofs.Ground.{◌-◌, ◌+◌, take, drop}
use Rattle.rules.specs.Plan.{plan, every_run}
use Rattle.pairs.proofs.Totals.{totals}
use Rattle.pairs.proofs.OfPlan.{of_pair}
use Rattle.tally.specs.Tally.{Counted}
use Rattle.tally.proofs.routines.tally_later.Given as goal

abbrev pub invariant-loop-g : goal.invariant-loop-g
invariant-loop-g l =
    let p = plan l.levels l.table in let passed = l.g - (l.f + 1) in
    Counted p passed (totals (of_pair p l.f) (take passed (drop (l.f + 1) (every_run p))))
    l.initial.total l.initial.counts l.initial.samples l.total l.counts l.samples
