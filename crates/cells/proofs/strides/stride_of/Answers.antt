-- A turn makes the stride of one level more.
use Rattle.exact.proofs.Ground.{[], ◌∙◌, sym, ap, ap₂, ℕ, ◌+◌, ◌*◌, ◌≤◌, add-one, arith, eqb, min}
use Rattle.exact.proofs.Lists.{count_most}
use Rattle.exact.proofs.Numbers.{length_from}
use Rattle.rules.specs.Plan.{Plan, plan, columns, level, every_column}
use Rattle.cells.specs.Cells.{window, members, stride}
use Rattle.cells.proofs.Radix.{stride-none, stride-next, stride_most}
use Rattle.cells.proofs.strides.stride_of.Goals as goal

few : (p : Plan) (s : ℕ) → columns p ≤ 24 → members (level p) (every_column p) s ≤ 24
unfolding members
few p s h = omega (arith, count_most (λ i. eqb s (level p i)) (every_column p), length_from 0 (columns p))

pub loop-s-init : goal.loop-s-init
loop-s-init c = let p = plan c.args.levels.now [] in sym (stride-none (level p) (every_column p))

pub next_stride-t-requires : goal.next_stride-t-requires
next_stride-t-requires c =
    let p = plan c.args.levels.now [] in
    (omega (arith, c.loop-s.invariant, stride_most (level p) (every_column p) c.loop-s.s), rw c.members_of.ensures (few p c.loop-s.s c.requires))

pub loop-s-preserved : goal.loop-s-preserved
loop-s-preserved c =
    let p = plan c.args.levels.now [] in
    c.next_stride-t.ensures
    ∙ ap₂ (λ t m. min window (t * (m + 1))) c.loop-s.invariant c.members_of.ensures
    ∙ sym (stride-next (level p) (every_column p) c.loop-s.s)
    ∙ ap (stride (level p) (every_column p)) (sym (add-one c.loop-s.s))
