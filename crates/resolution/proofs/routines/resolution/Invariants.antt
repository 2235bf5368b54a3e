-- What is left to search, from length k + 1 on, finds it.
use Rattle.exact.proofs.Ground.{◌+◌}
use Rattle.resolution.specs.Given.{first_above, is_above}
use Rattle.resolution.proofs.Searching.{Left}
use Rattle.resolution.proofs.routines.resolution.Given as goal

abbrev pub invariant-loop-k : goal.invariant-loop-k
invariant-loop-k l = Left (is_above l.words) (l.m + 1) (first_above l.words l.m) (l.k + 1)
