-- The entries of the runs so far.
use Rattle.exact.proofs.Ground.{◌≡◌, take}
use Rattle.rules.specs.Plan.{plan}
use Rattle.tell_lines.specs.Parts.{column_of}
use Rattle.tell_lines.proofs.routines.column_of.Given as goal

abbrev pub invariant-loop-run : goal.invariant-loop-run
invariant-loop-run l = l.entries ≡ column_of (plan l.levels l.table) (take l.run-index l.runs) l.column
