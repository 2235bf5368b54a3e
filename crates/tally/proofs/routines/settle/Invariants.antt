-- The pairs of the cells passed are in the total.
use Rattle.exact.proofs.Ground.{◌≡◌, length}
use Rattle.exact.specs.Lists.{from}
use Rattle.rules.specs.Plan.{plan}
use Rattle.pairs.specs.Given.{added}
use Rattle.pairs.proofs.Totals.{totals}
use Rattle.tally.specs.Tally.{of_cell}
use Rattle.tally.proofs.routines.settle.Given as goal

abbrev pub invariant-loop-times : goal.invariant-loop-times
invariant-loop-times l =
    l.total ≡ added l.initial.total (totals (of_cell (plan l.levels l.table) l.counts l.samples) (from 0 (length l.yielded)))
