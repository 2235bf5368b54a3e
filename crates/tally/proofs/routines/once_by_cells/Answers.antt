-- A turn counts or adds the pairs of one run more, from the last one down, with the later runs.
use Rattle.exact.proofs.Ground.{◌∙◌, refl, ◌≤◌, ◌<◌, ◌-◌, ◌+◌, ◌*◌, arith}
use Rattle.rules.specs.Plan.{plan, runs, highest_product}
use Rattle.pairs.proofs.Once.{once-begins, once_next}
use Rattle.tally.proofs.Turns.{row-less, few-less, blank-worth, blank-tally, blank-few, blank-row}
use Rattle.tally.proofs.routines.once_by_cells.Goals as goal

pub loop-f-init : goal.loop-f-init
loop-f-init c =
    let p = plan c.args.levels.now c.args.table.now in
    let counts = c.args.counts.now in let samples = c.args.samples.now in let L = c.requires.2 in (
      blank-worth p counts samples L ∙ once-begins p,
      blank-tally p counts samples L,
      blank-few p counts samples L _,
      blank-row _,
      refl,
    )

pub loop-f-preserved : goal.loop-f-preserved
loop-f-preserved c =
    let p = plan c.args.levels.now c.args.table.now in let f = c.loop-f.f in
    let i = c.loop-f.invariant in let C = c.tally_later.ensures in
    let h : 0 < f = omega arith in
    let l : f ≤ runs p = omega arith in (
      rw (C.gains, i.0) (once_next p f h l),
      C.tally,
      few-less ((runs p - f) * 255 + 255) _ _ (omega arith) (C.few ((runs p - f) * 255) i.2),
      row-less ((runs p - f) * (255 * highest_product) + 255 * highest_product) _ _ (omega arith) (C.row ((runs p - f) * (255 * highest_product)) i.3),
      C.long ∙ i.4,
    )
