-- The lines of the numbers before the next that occurs are put in.
use Rattle.exact.proofs.Ground.{◌-◌}
use Rattle.rules.specs.Plan.{plan}
use Rattle.tell_lines.specs.Parts.{Numbered}
use Rattle.tell_lines.proofs.CellLoop.{WrittenTo}
use Rattle.tell_lines.proofs.routines.write_cells.Given as goal

abbrev pub invariant-loop-number : goal.invariant-loop-number
invariant-loop-number l =
    let p = plan l.levels l.table in
    (N : Numbered p l.runs l.column l.others l.numbers) × WrittenTo p l.runs l.column l.others l.groups N l.end l.at l.initial.room l.number l.after l.room

abbrev pub decreases-loop-number : goal.decreases-loop-number
decreases-loop-number l = l.end - l.number
