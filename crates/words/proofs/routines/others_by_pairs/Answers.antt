-- A turn of the inner loop adds a pair to both of its rows.
use Rattle.exact.proofs.Ground.{List, [], ◌∷◌, Memᴰ, ◌≡◌, ◌∙◌, sym, ap, ap₂, ℕ, ◌≤◌, ◌<◌, ◌-◌, ◌+◌, ◌^◌, arith, ℤ, nat_abs, length}
use Rattle.exact.proofs.Ground.{get_or, take, drop, set, get_or-take}
use lib.ListN.{length-take}
use Rattle.exact.proofs.Members.{get_or-mem}
use Rattle.rules.specs.Plan.{Plan, plan, columns, most_runs, highest_product}
use Rattle.plan.specs.Good.{Sound}
use Rattle.pairs.specs.Given.{Part, Row, added}
use Rattle.pairs.specs.Lists.{pair_list}
use Rattle.words.specs.Given.{others_list}
use Rattle.words.specs.Answers.{by_length}
use Rattle.words.specs.declared.Sums.{Sums}
use Rattle.pairs.proofs.Totals.{totals, totals-none, totals-next, totals-row}
use Rattle.pairs.proofs.OfPlan.{of_pair, row-totals, sound-run, sound-take, pair_small, pair-added, pair-part}
use Rattle.words.proofs.RowsByPair.{others-first, others-next, others-row, past, paired-all, paired-next, pairing, pairing-reads, pairing-next}
use Rattle.words.proofs.routines.others_by_pairs.Goals as goal

-- the run at place k, and that at the earlier place e
module _ (p : Plan) (rs : List ℕ) (S : Sound p rs) (k : ℕ) (h : k < length rs) where
  abbrev run : ℕ
  run = get_or rs k 0

  run_sound : Sound p (run ∷ [])
  run_sound = sound-run p rs S run (get_or-mem rs k 0 h)

  few : k < most_runs
  few = omega (arith, S.few)

  small : (g : ℕ) → Memᴰ g rs → (j : ℕ) → nat_abs (of_pair p run j g) ≤ highest_product
  small g m = pair_small p run g run_sound (sound-run p rs S g m)

  module _ (e : ℕ) (l : e < k) where
    abbrev earlier : ℕ
    earlier = get_or rs e 0

    earlier_sound : Sound p (earlier ∷ [])
    earlier_sound = sound-run p rs S earlier (get_or-mem rs e 0 (omega arith))

    -- the row that is read there
    row-read : (rows : List Sums) → rows ≡ pairing p rs k e → (get_or rows e past).sums ≡ others_list p (take k rs) earlier
    row-read rows q = ap (λ rows. (get_or rows e past).sums) q ∙ ap (λ s. s.sums) (pairing-reads p rs k few e l)

    row_small : Row (2 ^ 61) (others_list p (take k rs) earlier)
    row_small = others-row p (take k rs) (sound-take p rs S k) earlier earlier_sound

    -- the pair's sums from length 1 on, to that of all columns
    module _ (sums : List ℤ) (s : sums ≡ pair_list p run (get_or (take k rs) e 0)) where
      abbrev longer : List ℤ
      longer = take (columns p + 1 - 1) (drop 1 sums)

      pair-is : sums ≡ pair_list p run earlier
      pair-is = s ∙ ap (pair_list p run) (get_or-take k rs e 0 l)

      longer-part : Part (2 ^ 61) longer
      longer-part = rw pair-is (pair-part p run earlier (columns p + 1 - 1) (omega arith) run_sound earlier_sound)

      longer-added : {row old : List ℤ} → row ≡ old → added row longer ≡ added old (by_length (λ j. of_pair p run j earlier))
      longer-added {row} {old} q =
          ap₂ (λ row sums. added row (take (columns p + 1 - 1) (drop 1 sums))) q pair-is ∙ pair-added p run earlier (columns p + 1 - 1) (omega arith) old

pub loop-e-init : goal.loop-e-init
loop-e-init c = (sym (totals-none _), c.loop-k.invariant)

pub pair-sums-requires : goal.pair-sums-requires
pair-sums-requires c =
    let p = plan c.args.levels.now c.args.table.now in let rs = c.args.runs.now in let k = c.loop-k.k in let e = c.loop-e.e in
    let h : k < length rs = omega arith in let l : e < k = omega (arith, length-take k rs) in
    (run_sound p rs c.requires k h, rw (get_or-take k rs e 0 l) (earlier_sound p rs c.requires k h e l))

pub add_to-requires : goal.add_to-requires
add_to-requires c =
    let p = plan c.args.levels.now c.args.table.now in let rs = c.args.runs.now in let S = c.requires in let k = c.loop-k.k in let e = c.loop-e.e in
    let h : k < length rs = omega arith in let l : e < k = omega (arith, length-take k rs) in (
      rw c.loop-e.invariant.0 (totals-row (of_pair p (get_or rs k 0)) rs e highest_product (2 ^ 61) S.few (omega arith) (small p rs S k h)),
      longer-part p rs S k h e l c.pair-sums.result c.pair-sums.ensures,
    )

pub add_to-requires-in-loop-e : goal.add_to-requires-in-loop-e
add_to-requires-in-loop-e c =
    let p = plan c.args.levels.now c.args.table.now in let rs = c.args.runs.now in let S = c.requires in let k = c.loop-k.k in let e = c.loop-e.e in
    let h : k < length rs = omega arith in let l : e < k = omega (arith, length-take k rs) in (
      rw (row-read p rs S k h e l c.loop-e.rows c.loop-e.invariant.1) (row_small p rs S k h e l),
      longer-part p rs S k h e l c.pair-sums.result c.pair-sums.ensures,
    )

pub loop-e-preserved : goal.loop-e-preserved
loop-e-preserved c =
    let p = plan c.args.levels.now c.args.table.now in let rs = c.args.runs.now in let S = c.requires in let k = c.loop-k.k in let e = c.loop-e.e in
    let h : k < length rs = omega arith in let l : e < k = omega (arith, length-take k rs) in (
      c.add_to.ensures
          ∙ longer-added p rs S k h e l c.pair-sums.result c.pair-sums.ensures c.loop-e.invariant.0
          ∙ totals-next (of_pair p (get_or rs k 0)) rs e 0 (omega arith),
      ap₂ (λ rows s. set rows e (record { sums = s })) c.loop-e.invariant.1
          (c.add_to-in-loop-e.ensures
          ∙ longer-added p rs S k h e l c.pair-sums.result c.pair-sums.ensures (row-read p rs S k h e l c.loop-e.rows c.loop-e.invariant.1)
          ∙ others-next p rs k h (get_or rs e 0))
          ∙ pairing-next p rs k (few p rs S k h) e l,
    )

pub loop-k-preserved : goal.loop-k-preserved
loop-k-preserved c =
    let p = plan c.args.levels.now c.args.table.now in let rs = c.args.runs.now in let S = c.requires in let k = c.loop-k.k in
    let h : k < length rs = omega arith in
    let z : c.loop-e.e ≡ k = omega (arith, length-take k rs) in
    ap₂ (λ rows s. set rows k (record { sums = s })) (c.loop-e.invariant.1 ∙ ap (pairing p rs k) z)
    (c.loop-e.invariant.0 ∙ ap (λ e. totals (of_pair p (get_or rs k 0)) (take e rs)) z ∙ row-totals p (take k rs) (get_or rs k 0) ∙ others-first p rs k h)
    ∙ paired-next p rs k (few p rs S k h)

pub returns : goal.returns
returns c =
    let p = plan c.args.levels.now c.args.table.now in let rs = c.args.runs.now in
    let z : c.loop-k.k ≡ length rs = omega arith in
    rw (c.loop-k.invariant, z) (paired-all p rs)
