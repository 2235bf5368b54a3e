-- The text stands in front of the local room, and goes to the lent one where it fits.
use Rattle.exact.proofs.Ground.{◌≡◌, ◌∙◌, ap, zero-add, arith, length}
use Rattle.std.specs.Prelude.{Ok}
use Rattle.rules.specs.Plan.{plan}
use Rattle.writer.specs.Writer.{text_of}
use Rattle.writer.proofs.Writes.{room_small, room-large}
use Rattle.writer.proofs.routines.write_runs.Goals as goal

pub returns-then-room-bytes-clause-answer : goal.returns-then-room-bytes-clause-answer
returns-then-room-bytes-clause-answer c =
    let a = c.args in
    let w = c.write_lines-bytes.ensures in
    rw c.plain.ensures (room_small (plan a.levels.now a.table.now) a.runs.now (length a.room.now) (omega (arith, w.behind)))

pub returns-clause-answer : goal.returns-clause-answer
returns-clause-answer c =
    let a = c.args in
    let w = c.write_lines-bytes.ensures in
    let p = plan a.levels.now a.table.now in
    let e : c.write_lines-bytes.result ≡ length (text_of p a.runs.now) = w.behind ∙ zero-add (length (text_of p a.runs.now)) in
    ap Ok e ∙ room-large p a.runs.now (length a.room.now) (omega (arith, e))
