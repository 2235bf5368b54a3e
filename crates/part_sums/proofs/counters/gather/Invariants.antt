use Rattle.part_sums.proofs.Counting.{Gathered}
use Rattle.part_sums.proofs.counters.gather.Given as goal

abbrev pub invariant-loop-place : goal.invariant-loop-place
invariant-loop-place l = Gathered l.initial.counters l.places l.counters l.place-index l.total
