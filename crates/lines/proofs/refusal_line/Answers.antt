-- What was put in from place 0 on stands in front of the room.
use Rattle.text.proofs.Puts.{front-into}
use Rattle.lines.proofs.refusal_line.Goals as goal

pub returns-clause-room : goal.returns-clause-room
returns-clause-room c = front-into c.write_refusal.ensures
