use Rattle.exact.proofs.Ground.{◌≡◌, drop}
use Rattle.parts.specs.Parts.{counted}
use Rattle.parts.proofs.clear.Given as goal

abbrev pub invariant-loop-number : goal.invariant-loop-number
invariant-loop-number l = l.counters ≡ counted (drop l.number-index l.numbers)
