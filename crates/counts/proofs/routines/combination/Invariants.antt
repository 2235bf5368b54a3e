use Rattle.exact.proofs.Ground.{◌≡◌, take}
use Rattle.rules.specs.Plan.{plan, level, entry}
use Rattle.counts.specs.Numbered.{number_of}
use Rattle.counts.proofs.routines.combination.Given as goal

abbrev pub invariant-loop-i : goal.invariant-loop-i
invariant-loop-i l =
    let p = plan l.levels l.table in l.number ≡ number_of (level p) (entry p) l.run (take l.i-index l.columns)
