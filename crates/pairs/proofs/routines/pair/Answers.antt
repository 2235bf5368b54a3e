-- A turn takes one column more.
use Rattle.exact.proofs.Ground.{[], ◌∷◌, mem-head, ◌≡◌, ◌∙◌, sym, ap, refl, ap₂, arith}
use Rattle.exact.proofs.Ground.{w64, to_z, of_z}
use Rattle.exact.proofs.Bits.{of}
use Rattle.rules.specs.Plan.{plan, columns, level, entry}
use Rattle.pairs.specs.Words.{score_at}
use Rattle.pairs.specs.Given.{with_column}
use Rattle.pairs.proofs.Columns.{so_far, so-far-none, so_far_more, so-far-of}
use Rattle.pairs.proofs.OfPlan.{pair-so-far, score-below}
use Rattle.pairs.proofs.routines.pair.Goals as goal

pub loop-i-init : goal.loop-i-init
loop-i-init c = sym (so-far-none _)

pub overflow_mul-f : goal.overflow_mul-f
overflow_mul-f c = omega (arith, c.requires.0.inside c.args.f (mem-head refl))

pub overflow_add-f : goal.overflow_add-f
overflow_add-f c = omega (arith, c.requires.0.inside c.args.f (mem-head refl))

pub bounds-table-f : goal.bounds-table-f
bounds-table-f c = omega (arith, c.requires.0.inside c.args.f (mem-head refl))

pub overflow_mul-g : goal.overflow_mul-g
overflow_mul-g c = omega (arith, c.requires.1.inside c.args.g (mem-head refl))

pub overflow_add-g : goal.overflow_add-g
overflow_add-g c = omega (arith, c.requires.1.inside c.args.g (mem-head refl))

pub bounds-table-g : goal.bounds-table-g
bounds-table-g c = omega (arith, c.requires.1.inside c.args.g (mem-head refl))

pub extend-requires : goal.extend-requires
extend-requires c =
    let p = plan c.args.levels.now c.args.table.now in let i = c.loop-i.i in
    let scores = score_at (level p) (entry p) c.args.f c.args.g in
    let below = score-below p c.args.f c.args.g c.requires.0 c.requires.1 in
    let read : to_z w64 (of_z w64 c.score-x.result) ≡ scores i = of c.score-x.result c.score-x.type_inv ∙ c.score-x.ensures in (
      rw c.loop-i.invariant (so-far-of p (c.args.f ∷ []) c.requires.0 scores below i (omega arith)),
      rw read (omega (arith, below i (omega arith), c.requires.0.level-high i (omega arith))),
    )

pub loop-i-preserved : goal.loop-i-preserved
loop-i-preserved c =
    let p = plan c.args.levels.now c.args.table.now in
    c.extend.ensures
    ∙ ap₂ with_column (of c.score-x.result c.score-x.type_inv ∙ c.score-x.ensures) c.loop-i.invariant
    ∙ so_far_more (score_at (level p) (entry p) c.args.f c.args.g) c.loop-i.i

pub returns : goal.returns
returns c =
    let p = plan c.args.levels.now c.args.table.now in
    let e : c.loop-i.i ≡ columns p = omega arith in
    c.loop-i.invariant ∙ ap (so_far (score_at (level p) (entry p) c.args.f c.args.g)) e ∙ pair-so-far p c.args.f c.args.g
