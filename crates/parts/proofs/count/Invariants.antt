use Rattle.exact.proofs.Ground.{◌≡◌, pos, take}
use Rattle.parts.specs.Parts.{counted, squares_of}
use Rattle.parts.proofs.count.Given as goal

abbrev pub invariant-loop-number : goal.invariant-loop-number
invariant-loop-number l = record {
  counters : l.counters ≡ counted (take l.number-index l.numbers);
  total : pos l.total ≡ squares_of (take l.number-index l.numbers);
}
