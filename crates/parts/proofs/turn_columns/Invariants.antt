use Rattle.exact.proofs.Ground.{◌≡◌, take, length}
use Rattle.exact.specs.Lists.{filled_to}
use Rattle.rules.specs.Plan.{plan, entry}
use Rattle.parts.specs.Parts.{turned}
use Rattle.parts.proofs.turn_columns.Given as goal

abbrev pub invariant-loop-t : goal.invariant-loop-t
invariant-loop-t l = l.room ≡ filled_to (length l.initial.room) 0 (turned (entry (plan l.levels l.table)) l.runs (take l.t l.columns))
