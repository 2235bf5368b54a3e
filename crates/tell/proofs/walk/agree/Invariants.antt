-- What is left to compare decides of all columns.
use Rattle.exact.proofs.Ground.{◌≡◌, drop, eqb}
use Rattle.exact.specs.Lists.{all}
use Rattle.rules.specs.Plan.{plan, entry}
use Rattle.tell.specs.Evidence.{agree}
use Rattle.tell.proofs.walk.agree.Given as goal

abbrev pub invariant-loop-i : goal.invariant-loop-i
invariant-loop-i l =
    let p = plan l.levels l.table in
    all (drop l.i-index l.columns) (λ i. eqb (entry p l.f i) (entry p l.g i)) ≡ agree (entry p) l.columns l.f l.g
