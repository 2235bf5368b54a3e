-- A turn counts or adds the pair with one run more.
use Rattle.exact.proofs.Ground.{List, ◌≡◌, ◌∙◌, sym, ap, refl, subst, ◌+◌, ◌*◌, ◌^◌, arith, ℤ, length, get_or, take, take-length}
use Rattle.exact.proofs.Members.{get_or-mem}
use Rattle.rules.specs.Plan.{plan, highest_product}
use Rattle.pairs.proofs.Totals.{totals, totals-none}
use Rattle.pairs.proofs.OfPlan.{of_pair, row-totals, sound-run}
use Rattle.tally.specs.Tally.{Counted}
use Rattle.tally.proofs.Turns.{row-less, counted_none, counted-more, counted-run}
use Rattle.row_tally.proofs.routines.tally_runs.Goals as goal

pub loop-g-init : goal.loop-g-init
loop-g-init c =
    let p = plan c.args.levels.now c.args.table.now in
    let total = c.args.total.now in let counts = c.args.counts.now in let samples = c.args.samples.now in
    subst (λ (z : List ℤ). Counted p 0 z total counts samples total counts samples) (sym (totals-none (of_pair p c.args.f)))
    (counted_none p total counts samples c.requires.4)

pub tally-requires : goal.tally-requires
tally-requires c =
    let p = plan c.args.levels.now c.args.table.now in let rs = c.args.runs.now in let k = c.loop-g.g-index in
    let C = c.loop-g.invariant in let F = C.few 65024 c.requires.5 in let few = c.requires.1.few in (
      c.requires.0,
      c.requires.2,
      sound-run p rs c.requires.1 (get_or rs k 0) (get_or-mem rs k 0 (omega arith)),
      row-less (2 ^ 59 + k * highest_product) (2 ^ 60) c.loop-g.total (omega arith) (C.row (2 ^ 59) c.requires.3),
      C.tally,
      record { most = λ k. omega (arith, F.most k) },
    )

pub loop-g-preserved : goal.loop-g-preserved
loop-g-preserved c =
    let p = plan c.args.levels.now c.args.table.now in let rs = c.args.runs.now in let k = c.loop-g.g-index in
    counted-run p rs c.args.f (get_or rs k 0) k (k + 1) (omega arith) refl refl c.loop-g.invariant c.tally.ensures

pub returns : goal.returns
returns c =
    let p = plan c.args.levels.now c.args.table.now in let rs = c.args.runs.now in let k = c.loop-g.g-index in let f = c.args.f in
    let total = c.args.total.now in let counts = c.args.counts.now in let samples = c.args.samples.now in
    let e : k ≡ length rs = omega arith in
    subst (λ (z : List ℤ). Counted p 256 z total counts samples c.loop-g.total c.loop-g.counts c.loop-g.samples)
    (ap (totals (of_pair p f)) (ap (λ k. take k rs) e ∙ take-length rs) ∙ row-totals p rs f)
    (counted-more p total counts samples c.loop-g.total c.loop-g.counts c.loop-g.samples k _ c.loop-g.invariant 256 (omega (arith, c.requires.1.few)))
