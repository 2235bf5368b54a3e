use Rattle.exact.proofs.Ground.{◌≡◌, take}
use Rattle.exact.specs.Lists.{from}
use Rattle.part_sums.proofs.prepared.every_number.Given as goal

abbrev pub invariant-loop-k : goal.invariant-loop-k
invariant-loop-k l = take l.k l.number-items ≡ from 0 l.k
