-- The numbers go in front of the zeros.
use Rattle.exact.proofs.Ground.{ℕ, length-replicate}
use Rattle.exact.proofs.Rooms.{into-blank}
use Rattle.asked.proofs.numbers.in_row.Goals as goal

pub copy-requires : goal.copy-requires
copy-requires g c = rw (c.as_slice.ensures, length-replicate {A = ℕ} g.row.N 0) (rw c.in-Ok.is at c.requires)

pub returns-in-Ok : goal.returns-in-Ok
returns-in-Ok g c = rw (c.copy.ensures, c.as_slice.ensures, c.in-Ok.is) (into-blank {A = ℕ} _ g.row.N 0)
