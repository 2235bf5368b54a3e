-- The levels passed have their new names.
use Rattle.exact.proofs.Ground.{◌≡◌, get_or}
use Rattle.exact.proofs.Rooms.{begun}
use Rattle.tell.specs.Evidence.{renamed}
use Rattle.tell.proofs.walk.joined.Given as goal

abbrev pub invariant-loop-name : goal.invariant-loop-name
invariant-loop-name l = l.name-items ≡ begun (λ k. renamed l.p l.q (get_or l.fn.groups k 0)) l.fn.groups l.name-index
