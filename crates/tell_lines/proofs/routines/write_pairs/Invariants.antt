-- The lines of the first k pairs are put in.
use Rattle.exact.proofs.Ground.{◌*◌}
use Rattle.exact.specs.Lists.{from, each}
use Rattle.rules.specs.Plan.{plan}
use Rattle.text.specs.Bytes.{Put}
use Rattle.tell_lines.specs.Parts.{pair_line_at}
use Rattle.tell_lines.proofs.routines.write_pairs.Given as goal

abbrev pub invariant-loop-k : goal.invariant-loop-k
invariant-loop-k l =
    Put (each (from 0 l.k) (pair_line_at (plan l.levels l.table) l.column l.fn.joins.left l.fn.joins.right)) (l.k * 89) l.at l.initial.room l.end l.room
