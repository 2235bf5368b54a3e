use Rattle.exact.proofs.Ground.{◌≡◌, ◌+◌, ◌*◌, get_or, replicate}
use Rattle.exact.proofs.Rooms.{begun}
use Rattle.parts.proofs.longer.Given as goal

abbrev pub invariant-loop-k : goal.invariant-loop-k
invariant-loop-k l = l.room ≡ begun (λ k. get_or l.numbers k 0 * l.level + get_or l.digits k 0) (replicate 256 0) l.k
