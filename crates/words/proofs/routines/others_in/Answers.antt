-- A turn makes the row of one place.
use Rattle.exact.proofs.Ground.{List, ◌≡◌, ◌∙◌, ap, ap₂, ℕ, ◌<◌, ◌-◌, ◌+◌, arith, length, get_or, take, drop, set, take_all, length-drop}
use Rattle.exact.proofs.Lists.{mem-drop}
use Rattle.exact.proofs.Members.{get_or-mem}
use Rattle.rules.specs.Plan.{Plan, plan}
use Rattle.plan.specs.Good.{Sound}
use Rattle.pairs.specs.Given.{added}
use Rattle.pairs.specs.Lists.{row_list}
use Rattle.pairs.proofs.OfPlan.{sound-run, sound-take, sound-some}
use Rattle.row_tally.proofs.Rows.{kept_then}
use Rattle.words.proofs.RowsByPair.{others-split, placed, placed-next, placed-all}
use Rattle.words.proofs.routines.others_in.Goals as goal

-- the runs after place k
module _ (p : Plan) (rs : List ℕ) (S : Sound p rs) (k : ℕ) where
  after : take (length rs - (k + 1)) (drop (k + 1) rs) ≡ drop (k + 1) rs
  after = take_all (length rs - (k + 1)) (drop (k + 1) rs) (omega (arith, length-drop (k + 1) rs))

  after-sound : Sound p (drop (k + 1) rs)
  after-sound = sound-some p rs S (drop (k + 1) rs) (omega (arith, length-drop (k + 1) rs, S.few)) (mem-drop (k + 1) rs)

pub row_in-sums-requires : goal.row_in-sums-requires
row_in-sums-requires c =
    let p = plan c.args.levels.now c.args.table.now in let rs = c.args.runs.now in let S = c.requires.1 in let k = c.loop-k.k in let i = c.loop-k.invariant in (
      c.requires.0,
      sound-take p rs S k,
      rw (after p rs S k) (after-sound p rs S k),
      sound-run p rs S (get_or rs k 0) (get_or-mem rs k 0 (omega arith)),
      i.1,
      i.3.still,
    )

pub loop-k-preserved : goal.loop-k-preserved
loop-k-preserved c =
    let p = plan c.args.levels.now c.args.table.now in let rs = c.args.runs.now in let S = c.requires.1 in let k = c.loop-k.k in let i = c.loop-k.invariant in
    let h : k < length rs = omega arith in let E = c.row_in-sums.ensures in (
      ap₂ (λ rows sums. set rows k (record { sums = sums })) i.0
          (E.0 ∙ ap (λ qs. added (row_list p (take k rs) (get_or rs k 0)) (row_list p qs (get_or rs k 0))) (after p rs S k) ∙ others-split p rs k h)
          ∙ placed-next p rs k (omega (arith, S.few)),
      E.1,
      E.2 ∙ i.2,
      kept_then p c.args.known.now c.loop-k.known _ _ i.3.long E.3,
    )

pub returns : goal.returns
returns c =
    let p = plan c.args.levels.now c.args.table.now in let rs = c.args.runs.now in
    let e : c.loop-k.k ≡ length rs = omega arith in
    c.loop-k.invariant.0 ∙ ap (placed p rs) e ∙ placed-all p rs
