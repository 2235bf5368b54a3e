-- What is left to search, from q on, finds the root.
use Rattle.resolution.specs.Resolution.{root_of}
use Rattle.resolution.proofs.Searching.{Left}
use Rattle.resolution.proofs.Root.{enough}
use Rattle.resolution.proofs.numbers.root.Given as goal

abbrev pub invariant-loop-q : goal.invariant-loop-q
invariant-loop-q l = Left (enough l.x) 1000 (root_of l.x) l.q
