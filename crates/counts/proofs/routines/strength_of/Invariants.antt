use Rattle.rules.specs.Plan.{plan}
use Rattle.counts.proofs.Turns.{Found}
use Rattle.counts.proofs.routines.strength_of.Given as goal

abbrev pub invariant-loop-t : goal.invariant-loop-t
invariant-loop-t l = Found (plan l.levels l.table) l.runs l.columns l.t
