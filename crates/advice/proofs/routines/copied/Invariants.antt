-- Before run i the first i runs are taken.
use Rattle.exact.proofs.Ground.{◌≡◌, take}
use Rattle.advice.proofs.routines.copied.Given as goal

abbrev pub invariant-loop-run : goal.invariant-loop-run
invariant-loop-run l = l.left ≡ take l.run-index l.runs
