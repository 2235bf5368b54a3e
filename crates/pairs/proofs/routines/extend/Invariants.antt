-- Above length j the sums are the new ones, and what a turn reads are still the old.
use Rattle.exact.proofs.Ground.{◌≤◌, ◌+◌}
use Rattle.pairs.proofs.Rows.{Partway}
use Rattle.pairs.proofs.routines.extend.Given as goal

abbrev pub invariant-loop-j : goal.invariant-loop-j
invariant-loop-j l = (l.j ≤ l.columns + 1) × Partway l.score l.initial.sums l.sums l.j

abbrev pub decreases-loop-j : goal.decreases-loop-j
decreases-loop-j l = l.j
