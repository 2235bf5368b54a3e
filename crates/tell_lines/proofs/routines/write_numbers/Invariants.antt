-- The first k numbers stand in front of the fields.
use Rattle.tell_lines.specs.Parts.{most_fields}
use Rattle.tell_lines.proofs.Rows.{Begun}
use Rattle.tell_lines.proofs.routines.write_numbers.Given as goal

abbrev pub invariant-loop-k : goal.invariant-loop-k
invariant-loop-k l = Begun l.numbers most_fields l.k l.fields
