-- Below length j the sums are the new ones.
use Rattle.exact.proofs.Ground.{◌≡◌}
use Rattle.exact.proofs.Rooms.{begun}
use Rattle.pairs.proofs.Adding.{both}
use Rattle.pairs.proofs.routines.add_to.Given as goal

abbrev pub invariant-loop-j : goal.invariant-loop-j
invariant-loop-j l = l.total ≡ begun (both l.initial.total l.more) l.initial.total l.j
