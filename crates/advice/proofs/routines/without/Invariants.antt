-- Before run i those of the first i runs are taken that are not f.
use Rattle.exact.proofs.Ground.{◌≡◌, take}
use Rattle.advice.specs.Advice.{without}
use Rattle.advice.proofs.routines.without.Given as goal

abbrev pub invariant-loop-run : goal.invariant-loop-run
invariant-loop-run l = l.left ≡ without l.f (take l.run-index l.runs)
