-- The first fields stand behind the name.
use Rattle.lines.proofs.Lines.{PutFields}
use Rattle.lines.proofs.write_line.Given as goal

abbrev pub invariant-loop-number : goal.invariant-loop-number
invariant-loop-number l = PutFields l.numbers l.number-index l.initial.end l.initial.room l.end l.room
