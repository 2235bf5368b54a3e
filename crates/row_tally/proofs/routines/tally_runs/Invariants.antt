-- The pairs with the runs passed are counted or added.
use Rattle.exact.proofs.Ground.{take}
use Rattle.rules.specs.Plan.{plan}
use Rattle.pairs.proofs.Totals.{totals}
use Rattle.pairs.proofs.OfPlan.{of_pair}
use Rattle.tally.specs.Tally.{Counted}
use Rattle.row_tally.proofs.routines.tally_runs.Given as goal

abbrev pub invariant-loop-g : goal.invariant-loop-g
invariant-loop-g l =
    let p = plan l.levels l.table in
    Counted p l.g-index (totals (of_pair p l.f) (take l.g-index l.runs)) l.initial.total l.initial.counts l.initial.samples l.total l.counts l.samples
