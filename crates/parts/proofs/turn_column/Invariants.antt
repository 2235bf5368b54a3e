use Rattle.exact.proofs.Ground.{◌≡◌, map}
use lib.Seq.{paste}
use Rattle.rules.specs.Plan.{plan, entry}
use Rattle.parts.proofs.turn_column.Given as goal

abbrev pub invariant-loop-k : goal.invariant-loop-k
invariant-loop-k l = l.room ≡ paste l.initial.room l.at (map (λ f. entry (plan l.levels l.table) f l.column) l.runs) l.k
