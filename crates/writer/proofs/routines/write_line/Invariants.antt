-- The first number stands in the room, and the first of those behind it.
use Rattle.writer.proofs.LineWriting.{PutLater}
use Rattle.writer.proofs.routines.write_line.Given as goal

abbrev pub invariant-loop-number : goal.invariant-loop-number
invariant-loop-number l = PutLater l.numbers l.number-index l.initial.end l.initial.room l.end l.room
