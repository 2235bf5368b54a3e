-- The runs lost so far and those left are, at every turn, what the advice taken so often gives.
use Rattle.exact.proofs.Ground.{◌≤◌, ◌-◌, length}
use Rattle.rules.specs.Plan.{plan}
use Rattle.advice.proofs.Turns.{Turned}
use Rattle.advice.proofs.routines.in_turn.Given as goal

abbrev pub invariant-loop-left : goal.invariant-loop-left
invariant-loop-left l = (length l.lost ≤ l.k) × Turned (plan l.levels l.table) l.runs l.lost l.left

abbrev pub decreases-loop-left : goal.decreases-loop-left
decreases-loop-left l = l.k - length l.lost
