-- A turn adds what its pair adds.
use Rattle.exact.proofs.Ground.{List, [], ◌∷◌, ◌≡◌, ◌∙◌, sym, ap, ap₂, ℕ, ◌<◌, ◌^◌, arith, length, get_or, take, drop, take-length}
use Rattle.exact.proofs.Members.{get_or-mem}
use Rattle.rules.specs.Plan.{Plan, plan, highest_product}
use Rattle.plan.specs.Good.{Sound}
use Rattle.pairs.specs.Given.{added}
use Rattle.pairs.proofs.Totals.{totals, totals-none, totals-next, totals-row}
use Rattle.pairs.proofs.OfPlan.{of_pair, row-totals, sound-run, pair_small, pair-added, pair-part}
use Rattle.pairs.proofs.routines.row.Goals as goal

-- a turn's run
module _ (p : Plan) (rs : List ℕ) (S : Sound p rs) (k : ℕ) where
  member : k < length rs → Sound p (get_or rs k 0 ∷ [])
  member h = sound-run p rs S (get_or rs k 0) (get_or-mem rs k 0 h)

pub loop-g-init : goal.loop-g-init
loop-g-init c = sym (totals-none _)

pub pair-sums-requires : goal.pair-sums-requires
pair-sums-requires c =
    (c.requires.1, member (plan c.args.levels.now c.args.table.now) c.args.runs.now c.requires.0 c.loop-g.g-index (omega arith))

pub add_to-requires : goal.add_to-requires
add_to-requires c =
    let p = plan c.args.levels.now c.args.table.now in let rs = c.args.runs.now in let f = c.args.f in let k = c.loop-g.g-index in
    let S = c.requires.0 in let F = c.requires.1 in (
      rw c.loop-g.invariant (totals-row (of_pair p f) rs k highest_product (2 ^ 61) S.few (omega arith)
          (λ g m. pair_small p f g F (sound-run p rs S g m))),
      rw c.pair-sums.ensures (pair-part p f (get_or rs k 0) 24 F.columns-high F (member p rs S k (omega arith))),
    )

pub loop-g-preserved : goal.loop-g-preserved
loop-g-preserved c =
    let p = plan c.args.levels.now c.args.table.now in let rs = c.args.runs.now in let f = c.args.f in let k = c.loop-g.g-index in
    c.add_to.ensures
    ∙ ap₂ (λ row r. added row (take 24 (drop 1 r))) c.loop-g.invariant c.pair-sums.ensures
    ∙ pair-added p f (get_or rs k 0) 24 c.requires.1.columns-high _
    ∙ totals-next (of_pair p f) rs k 0 (omega arith)

pub returns : goal.returns
returns c =
    let p = plan c.args.levels.now c.args.table.now in let rs = c.args.runs.now in let f = c.args.f in
    let e : c.loop-g.g-index ≡ length rs = omega arith in
    c.loop-g.invariant ∙ ap (totals (of_pair p f)) (ap (λ k. take k rs) e ∙ take-length rs) ∙ row-totals p rs f
