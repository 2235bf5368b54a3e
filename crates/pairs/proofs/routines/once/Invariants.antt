-- The total is that over each pair of different runs from run f on once.
use Rattle.exact.proofs.Ground.{◌≡◌, drop}
use Rattle.rules.specs.Plan.{plan, every_run}
use Rattle.pairs.specs.Given.{once_list}
use Rattle.pairs.proofs.routines.once.Given as goal

abbrev pub invariant-loop-f : goal.invariant-loop-f
invariant-loop-f l = let p = plan l.levels l.table in l.total ≡ once_list p (drop l.f (every_run p))
