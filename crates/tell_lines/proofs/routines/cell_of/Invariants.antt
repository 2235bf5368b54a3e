-- The entries in the columns so far.
use Rattle.exact.proofs.Ground.{◌≡◌, take}
use Rattle.rules.specs.Plan.{plan, entry}
use Rattle.tell.specs.Tell.{cell}
use Rattle.tell_lines.proofs.routines.cell_of.Given as goal

abbrev pub invariant-loop-column : goal.invariant-loop-column
invariant-loop-column l = l.entries ≡ cell (entry (plan l.levels l.table)) (take l.column-index l.others) l.run
