use Rattle.exact.proofs.Ground.{◌≡◌, length, drop}
use Rattle.part_sums.specs.Counters.{counters_of}
use Rattle.part_sums.proofs.counters.tally_rest.Given as goal

abbrev pub invariant-loop-k : goal.invariant-loop-k
invariant-loop-k l = l.counters ≡ counters_of (length l.initial.counters) (drop l.k l.numbers)
