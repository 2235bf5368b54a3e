-- The room has as many places as it was made with.
use Rattle.exact.proofs.Ground.{sym, ℕ, length-replicate}
use Rattle.table_lines.specs.Given.{most_bytes}
use Rattle.table_text.proofs.routines.lines_room.Goals as goal

pub returns : goal.returns
returns c = sym (length-replicate {A = ℕ} most_bytes 0)
