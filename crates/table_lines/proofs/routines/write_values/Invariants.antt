-- The first k lines are put in.
use Rattle.projection_tables.specs.Tables.{rooms, line_at}
use Rattle.lines.proofs.Lines.{PutEach}
use Rattle.table_lines.specs.TableLines.{value_line}
use Rattle.table_lines.proofs.routines.write_values.Given as goal

abbrev pub invariant-loop-k : goal.invariant-loop-k
invariant-loop-k l = PutEach (λ i. value_line (line_at (rooms l.nums l.dens l.counts) i)) 69 l.k l.at l.initial.room l.end l.room
