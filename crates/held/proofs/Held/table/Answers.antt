-- The entries are the front of their room.
use Rattle.exact.proofs.Ground.{arith}
use Rattle.held.proofs.Sizes.{sized}
use Rattle.held.proofs.Held.table.Goals as goal

pub overflow_mul-result : goal.overflow_mul-result
overflow_mul-result c = omega (arith, (sized c.requires).table-high)

pub shared_ref_as_front-result : goal.shared_ref_as_front-result
shared_ref_as_front-result c = (sized c.requires).table-high
