-- A turn adds the pairs of one run more with the later runs; at the end come the pairs of a run with itself.
use Rattle.exact.proofs.Ground.{List, [], ◌∷◌, ◌≡◌, ◌∙◌, sym, ap, ap₂, ℕ, ◌≤◌, ◌<◌, ◌-◌, ◌+◌, ◌^◌}
use Rattle.exact.proofs.Ground.{arith, length, get_or, take, drop, take_all, length-drop, drop-length}
use Rattle.exact.proofs.Lists.{mem-drop}
use Rattle.exact.proofs.Members.{get_or-mem}
use Rattle.rules.specs.Plan.{Plan, plan, level, entry, every_column}
use Rattle.plan.specs.Good.{Sound}
use Rattle.words.specs.Words.{row_sum}
use Rattle.pairs.specs.Given.{Row, Part, once_list}
use Rattle.words.specs.Given.{both_orders}
use Rattle.words.specs.Answers.{row_list, diagonal_list}
use Rattle.pairs.proofs.OfPlan.{sound-some, sound-run, sound-levels, row_small, diagonal-row}
use Rattle.pairs.proofs.Totals.{by-length-row, whole_part}
use Rattle.pairs.proofs.Once.{once-none, once-turn, once-row}
use Rattle.words.proofs.Once.{word-once}
use Rattle.run_words.proofs.words_of_runs.Goals as goal

-- the runs from place k on, and the one before them
module _ (p : Plan) (rs : List ℕ) (S : Sound p rs) (k : ℕ) where
  later : Sound p (drop k rs)
  later = sound-some p rs S (drop k rs) (omega (arith, length-drop k rs, S.few)) (mem-drop k rs)

  whole : take (length rs - k) (drop k rs) ≡ drop k rs
  whole = take_all (length rs - k) (drop k rs) (omega (arith, length-drop k rs))

  module _ (h : 0 < k) (l : k ≤ length rs) where
    next : Sound p (get_or rs (k - 1) 0 ∷ [])
    next = sound-run p rs S (get_or rs (k - 1) 0) (get_or-mem rs (k - 1) 0 (omega arith))

    row-part : Part (2 ^ 61) (row_list p (drop k rs) (get_or rs (k - 1) 0))
    unfolding row_list
    row-part =
        whole_part (by-length-row (λ j. row_sum (level p) (entry p) (drop k rs) (every_column p) j (get_or rs (k - 1) 0)) (2 ^ 61)
        (λ j. omega (arith, row_small p (drop k rs) later (get_or rs (k - 1) 0) next j)))

pub loop-k-init : goal.loop-k-init
loop-k-init c =
    let p = plan c.args.levels.now c.args.table.now in
    sym (ap (once_list p) (drop-length c.args.runs.now) ∙ once-none p)

pub row-later-requires : goal.row-later-requires
row-later-requires c =
    let p = plan c.args.levels.now c.args.table.now in
    let rs = c.args.runs.now in
    let k = c.loop-k.k in
    let e : k - 1 + 1 ≡ k = omega arith in
    rw (e, whole p rs c.requires k) (later p rs c.requires k, next p rs c.requires k (omega arith) (omega arith))

pub add_to-requires : goal.add_to-requires
add_to-requires c =
    let p = plan c.args.levels.now c.args.table.now in
    let rs = c.args.runs.now in
    let k = c.loop-k.k in
    let e : k - 1 + 1 ≡ k = omega arith in
    let R = once-row p rs c.requires k in
    let total : Row (2 ^ 61) c.loop-k.total = rw c.loop-k.invariant (record { long = R.long; small = λ j. omega (arith, R.small j) }) in
    (total, rw (c.row-later.ensures, e, whole p rs c.requires k) (row-part p rs c.requires k (omega arith) (omega arith)))

pub loop-k-preserved : goal.loop-k-preserved
loop-k-preserved c =
    let p = plan c.args.levels.now c.args.table.now in
    let rs = c.args.runs.now in
    let k = c.loop-k.k in
    let e : k - 1 + 1 ≡ k = omega arith in
    rw (c.add_to.ensures, c.loop-k.invariant, c.row-later.ensures, e, whole p rs c.requires k) (once-turn p rs k (omega arith) (omega arith))

pub diagonal-own-requires : goal.diagonal-own-requires
diagonal-own-requires c = sound-levels (plan c.args.levels.now c.args.table.now) c.args.runs.now c.requires

pub both_orders-requires : goal.both_orders-requires
unfolding diagonal_list
both_orders-requires c =
    let p = plan c.args.levels.now c.args.table.now in
    let rs = c.args.runs.now in (
      rw c.loop-k.invariant (once-row p rs c.requires c.loop-k.k),
      (rw c.diagonal-own.ensures (diagonal-row p rs c.requires (2 ^ 32) (omega arith)), c.requires.few),
    )

pub returns : goal.returns
unfolding diagonal_list
returns c =
    let p = plan c.args.levels.now c.args.table.now in
    let rs = c.args.runs.now in
    let z : c.loop-k.k ≡ 0 = omega arith in
    c.both_orders.ensures
    ∙ ap₂ (both_orders (length rs)) c.diagonal-own.ensures (c.loop-k.invariant ∙ ap (λ k. once_list p (drop k rs)) z)
    ∙ word-once p rs
