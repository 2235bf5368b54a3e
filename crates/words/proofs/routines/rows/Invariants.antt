-- The rows of the runs passed stand in their places.
use Rattle.exact.proofs.Ground.{◌≡◌, length, take}
use Rattle.rules.specs.Plan.{plan, most_runs}
use Rattle.words.proofs.Marked.{marked}
use Rattle.words.proofs.OfPlan.{place}
use Rattle.words.proofs.routines.rows.Given as goal

abbrev pub invariant-loop-f : goal.invariant-loop-f
invariant-loop-f l = let p = plan l.levels l.table in l.rows ≡ marked (place p l.runs) most_runs (take (length l.yielded) l.runs)
