-- The pairs of the cells passed are in the total.
use Rattle.exact.proofs.Ground.{◌≡◌}
use Rattle.exact.specs.Lists.{from}
use Rattle.rules.specs.Plan.{plan}
use Rattle.pairs.specs.Given.{added}
use Rattle.pairs.proofs.Totals.{totals}
use Rattle.tally.specs.Tally.{of_cell}
use Rattle.row_tally.specs.Kept.{KeptOn}
use Rattle.row_tally.proofs.routines.settle.Given as goal

abbrev pub invariant-loop-c : goal.invariant-loop-c
invariant-loop-c l =
    let p = plan l.levels l.table in
    (l.total ≡ added l.initial.total (totals (of_cell p l.counts l.samples) (from 0 l.c))) × KeptOn p l.initial.known l.known l.kept
