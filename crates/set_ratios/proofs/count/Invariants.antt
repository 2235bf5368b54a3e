use Rattle.exact.proofs.Ground.{◌≡◌, length, take}
use Rattle.parts.specs.Parts.{longer}
use Rattle.set_ratios.specs.Given.{tallied}
use Rattle.set_ratios.proofs.count.Given as goal

abbrev pub invariant-loop-k : goal.invariant-loop-k
invariant-loop-k l = l.counters ≡ tallied (length l.initial.counters) (take l.k (longer l.level l.numbers l.digits))
