-- What is left to search, from the present column on, is what the whole search finds.
use Rattle.exact.proofs.Ground.{[], ◌≡◌, ◌-◌, length}
use Rattle.exact.specs.Lists.{first}
use Rattle.rules.specs.Plan.{plan}
use Rattle.rules.specs.Refusals.{first_bad_level}
use Rattle.plan.proofs.Loops.{bad_level_in}
use Rattle.plan.proofs.levels.first_bad_level.Given as goal

abbrev pub invariant-loop-i : goal.invariant-loop-i
invariant-loop-i l = first_bad_level (plan l.levels []) ≡ first (bad_level_in l.levels) l.i (length l.levels - l.i)
