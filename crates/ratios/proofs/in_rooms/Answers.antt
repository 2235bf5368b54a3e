-- Counters that are all zero.
use Rattle.exact.proofs.Ground.{ℕ, arith, length-replicate}
use Rattle.set_ratios.proofs.Tallied.{tallied-none}
use Rattle.ratios.proofs.in_rooms.Goals as goal

pub ratios_in-requires-clause-empty : goal.ratios_in-requires-clause-empty
ratios_in-requires-clause-empty g c =
    let many = length-replicate {A = ℕ} g.row.COUNTERS 0 in
    record { room = omega arith; few = omega arith; zero = rw many (tallied-none g.row.COUNTERS) }
