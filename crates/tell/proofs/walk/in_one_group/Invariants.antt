-- What is left to compare with the first decides of all.
use Rattle.exact.proofs.Ground.{◌≡◌}
use Rattle.exact.specs.Lists.{alike}
use Rattle.rules.specs.Plan.{plan}
use Rattle.tell.proofs.Turns.{found, alike_from}
use Rattle.tell.proofs.walk.in_one_group.Given as goal

abbrev pub invariant-loop-k : goal.invariant-loop-k
invariant-loop-k l =
    let p = plan l.levels l.table in
    alike_from p l.column l.runs l.groups l.k ≡ alike (found p l.column l.runs l.groups)
