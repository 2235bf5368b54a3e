-- Below length j the sums are the new ones.
use Rattle.exact.proofs.Ground.{◌≡◌}
use Rattle.exact.proofs.Rooms.{begun}
use Rattle.tally.proofs.Adding.{times-both}
use Rattle.tally.proofs.routines.add_times.Given as goal

abbrev pub invariant-loop-j : goal.invariant-loop-j
invariant-loop-j l = l.total ≡ begun (times-both l.fn.times l.initial.total l.more) l.initial.total l.j
