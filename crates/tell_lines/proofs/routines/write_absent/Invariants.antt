-- The lines of the first x levels are put in.
use Rattle.exact.proofs.Ground.{◌*◌}
use Rattle.text.specs.Bytes.{Put}
use Rattle.tell_lines.specs.Parts.{absent_lines_of}
use Rattle.tell_lines.proofs.routines.write_absent.Given as goal

abbrev pub invariant-loop-x : goal.invariant-loop-x
invariant-loop-x l = Put (absent_lines_of l.entries l.x) (l.x * 28) l.at l.initial.room l.end l.room
