-- Below length j the sums are the new ones.
use Rattle.exact.proofs.Ground.{◌≡◌}
use Rattle.exact.proofs.Rooms.{begun}
use Rattle.words.proofs.BothOrders.{both}
use Rattle.words.proofs.routines.both_orders.Given as goal

abbrev pub invariant-loop-j : goal.invariant-loop-j
invariant-loop-j l = l.total ≡ begun (both l.fn.runs l.own l.initial.total) l.initial.total l.j
