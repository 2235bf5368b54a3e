use Rattle.exact.proofs.Ground.{◌≡◌, take}
use Rattle.rules.specs.Plan.{plan}
use Rattle.counts.specs.Numbered.{tallies}
use Rattle.counts.proofs.routines.tallies.Given as goal

abbrev pub invariant-loop-run : goal.invariant-loop-run
invariant-loop-run l = l.counters ≡ tallies (plan l.levels l.table) (take l.run-index l.runs) l.columns
