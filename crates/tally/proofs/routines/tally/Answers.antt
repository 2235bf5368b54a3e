-- The pair is counted in its cell, or added at once.
use Rattle.exact.proofs.Ground.{List, [], ◌∷◌, mem-head, ◌∙◌, sym, ap, refl, subst, ℕ, ◌<◌, ◌^◌, arith, ℤ, take, drop}
use Rattle.rules.specs.Plan.{Plan, plan}
use Rattle.plan.specs.Good.{Sound}
use Rattle.pairs.specs.Given.{added}
use Rattle.pairs.proofs.OfPlan.{pair-part}
use Rattle.cells.specs.Cells.{pair_row}
use Rattle.tally.specs.Tally.{Counted}
use Rattle.tally.proofs.Turns.{row-less, pair-longer, counted, direct}
use Rattle.tally.proofs.routines.tally.Goals as goal

-- the number of a run is below 256
low : {p : Plan} (f : ℕ) → Sound p (f ∷ []) → f < 256
low f S = S.numbered f (mem-head refl)

pub overflow_mul-samples : goal.overflow_mul-samples
overflow_mul-samples c = omega (arith, low c.args.f c.requires.1)

pub overflow_add-samples : goal.overflow_add-samples
overflow_add-samples c = omega (arith, low c.args.f c.requires.1, low c.args.g c.requires.2)

pub overflow_cast-samples : goal.overflow_cast-samples
overflow_cast-samples c = omega (arith, low c.args.f c.requires.1, low c.args.g c.requires.2)

pub returns-then-c-counts : goal.returns-then-c-counts
returns-then-c-counts c =
    counted (plan c.args.levels.now c.args.table.now) c.args.total.now c.args.counts.now c.args.samples.now c.requires.4 c.args.f c.args.g
    c.requires.1 c.requires.2 c.from-c.result (sym (c.from-c.ensures ∙ c.cell.ensures)) (omega arith)

pub add_to-requires : goal.add_to-requires
add_to-requires c =
    let p = plan c.args.levels.now c.args.table.now in (
      row-less (2 ^ 60) (2 ^ 61) _ (omega arith) c.requires.3,
      rw c.pair-sums.ensures (pair-part p c.args.f c.args.g 24 c.requires.1.columns-high c.requires.1 c.requires.2),
    )

pub returns : goal.returns
returns c =
    let p = plan c.args.levels.now c.args.table.now in let total = c.args.total.now in
    subst (λ (t : List ℤ). Counted p 1 (pair_row p c.args.f c.args.g) total c.args.counts.now c.args.samples.now t c.args.counts.now c.args.samples.now)
    (sym (c.add_to.ensures ∙ ap (added total) (ap (λ r. take 24 (drop 1 r)) c.pair-sums.ensures ∙ pair-longer p c.args.f c.args.g)))
    (direct p total c.args.counts.now c.args.samples.now c.requires.4 c.args.f c.args.g c.requires.1 c.requires.2)
