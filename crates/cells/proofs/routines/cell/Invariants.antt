-- The sum over the columns passed, at most 2,560 for each.
use Rattle.exact.proofs.Ground.{◌≡◌, ◌≤◌, ◌*◌}
use Rattle.exact.specs.Lists.{from}
use Rattle.rules.specs.Plan.{plan}
use Rattle.cells.specs.Cells.{bit, sumℕ, agrees, stride_of}
use Rattle.cells.proofs.routines.cell.Given as goal

abbrev pub invariant-loop-i : goal.invariant-loop-i
invariant-loop-i l =
    let p = plan l.levels l.table in
    (l.c ≡ sumℕ (from 0 l.i) (λ x. stride_of p x * bit (agrees p l.f l.g x))) × (l.c ≤ 2_560 * l.i)
