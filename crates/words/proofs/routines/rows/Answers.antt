-- A turn puts the row of one run into its place.
use Rattle.exact.proofs.Ground.{List, [], ◌∷◌, Memᴰ, ◌≡◌, ◌∙◌, sym, ap, refl, ℕ, ◌<◌, ◌+◌, ◌^◌, arith, ℤ, length, get_or, take, set}
use Rattle.exact.proofs.Ground.{take-length, length-append}
use Rattle.std.proofs.lemmas.Slice.Zip.{zip_turn, zip_end}
use Rattle.exact.proofs.Members.{get_or-mem}
use Rattle.rules.specs.Plan.{Plan, plan, most_runs}
use Rattle.plan.specs.Good.{Sound}
use Rattle.pairs.specs.Given.{Row, added}
use Rattle.words.specs.Given.{others_list, others_by_place}
use Rattle.words.specs.Answers.{diagonal_list}
use Rattle.words.specs.declared.Sums.{Sums}
use Rattle.pairs.proofs.Totals.{whole_part}
use Rattle.pairs.proofs.OfPlan.{sound-run, diagonal-row}
use Rattle.words.proofs.Marked.{marked, marked_next}
use Rattle.words.proofs.OfPlan.{place, rows_none, rows-marked}
use Rattle.words.proofs.RowsByPair.{others-own, others-row, others-at, length-others, past}
use Rattle.words.proofs.routines.rows.Goals as goal

-- E_j, for each length: of the levels alone
alone : (p : Plan) → diagonal_list (plan p.levels []) ≡ diagonal_list p
unfolding diagonal_list
alone p = refl

-- the run at place k
module _ (p : Plan) (rs : List ℕ) (S : Sound p rs) (k : ℕ) (h : k < length rs) where
  abbrev run : ℕ
  run = get_or rs k 0

  member : Memᴰ run rs
  member = get_or-mem rs k 0 h

  numbered : {f : ℕ} → f ≡ run → f < most_runs
  numbered e = rw e (S.numbered run member)

  read : {other : Sums} {others : List Sums} → other ≡ get_or others k past → others ≡ others_by_place p rs → other.sums ≡ others_list p rs run
  read e o = ap (λ s. s.sums) (e ∙ ap (λ rows. get_or rows k past) o ∙ others-at p rs k h)

  row_small : Row (2 ^ 61) (others_list p rs run)
  row_small = others-row p rs S run (sound-run p rs S run member)

  -- its row, whole, goes into its place
  put : {f : ℕ} {rows : List Sums} {other own sums : List ℤ} → f ≡ run → rows ≡ marked (place p rs) most_runs (take k rs) →
      other ≡ others_list p rs run → own ≡ diagonal_list p → sums ≡ added other own →
      set rows f (record { sums = sums }) ≡ marked (place p rs) most_runs (take (k + 1) rs)
  put e r o d s = rw (r, e, s, o, d, others-own p rs run) (marked_next (place p rs) most_runs rs k h (numbered refl))

pub loop-f-init : goal.loop-f-init
loop-f-init c = sym (rows_none _ _)

pub add_to-requires : goal.add_to-requires
add_to-requires c =
    let p = plan c.args.levels.now c.args.table.now in let rs = c.args.runs.now in let S = c.requires in let k = length c.loop-f.yielded in
    let t = zip_turn rs c.rows_of_others-others.result c.loop-f.yielded c.into_iter-f-iterator.result c.loop-f.f-iterator c.next.new.self c.next.result
    (cc) (cc) c.loop-f.yielded_by (c.in-Some.f, c.in-Some.other) c.in-Some.is c.next.ensures.steps in (
      rw (read p rs S k t.0 (t.3 past) c.rows_of_others-others.ensures) (row_small p rs S k t.0),
      rw (c.diagonal-own.ensures, alone p) (whole_part (diagonal-row p rs S (2 ^ 61) (omega arith))),
    )

pub offset_bounds-rows-f : goal.offset_bounds-rows-f
offset_bounds-rows-f c =
    let p = plan c.args.levels.now c.args.table.now in let rs = c.args.runs.now in
    let t = zip_turn rs c.rows_of_others-others.result c.loop-f.yielded c.into_iter-f-iterator.result c.loop-f.f-iterator c.next.new.self c.next.result
    (cc) (cc) c.loop-f.yielded_by (c.in-Some.f, c.in-Some.other) c.in-Some.is c.next.ensures.steps in
    omega (arith, numbered p rs c.requires (length c.loop-f.yielded) t.0 (t.2 0))

pub bounds-rows-f : goal.bounds-rows-f
bounds-rows-f c =
    let p = plan c.args.levels.now c.args.table.now in let rs = c.args.runs.now in
    let t = zip_turn rs c.rows_of_others-others.result c.loop-f.yielded c.into_iter-f-iterator.result c.loop-f.f-iterator c.next.new.self c.next.result
    (cc) (cc) c.loop-f.yielded_by (c.in-Some.f, c.in-Some.other) c.in-Some.is c.next.ensures.steps in
    numbered p rs c.requires (length c.loop-f.yielded) t.0 (t.2 0)

pub loop-f-preserved : goal.loop-f-preserved
loop-f-preserved c =
    let p = plan c.args.levels.now c.args.table.now in let rs = c.args.runs.now in let S = c.requires in let k = length c.loop-f.yielded in
    let t = zip_turn rs c.rows_of_others-others.result c.loop-f.yielded c.into_iter-f-iterator.result c.loop-f.f-iterator c.next.new.self c.next.result
    (cc) (cc) c.loop-f.yielded_by (c.in-Some.f, c.in-Some.other) c.in-Some.is c.next.ensures.steps in
    put p rs S k t.0 (t.2 0) c.loop-f.invariant (read p rs S k t.0 (t.3 past) c.rows_of_others-others.ensures)
    (c.diagonal-own.ensures ∙ alone p) c.add_to.ensures
    ∙ ap (λ n. marked (place p rs) most_runs (take n rs)) (sym (length-append c.loop-f.yielded ((c.in-Some.f, c.in-Some.other) ∷ [])))

pub returns : goal.returns
returns c =
    let p = plan c.args.levels.now c.args.table.now in let rs = c.args.runs.now in
    let e = zip_end rs c.rows_of_others-others.result c.loop-f.yielded c.into_iter-f-iterator.result c.loop-f.f-iterator c.next.new.self c.next.result
    (cc) (cc) c.loop-f.yielded_by c.in-None.is c.next.ensures.steps in
    let long = ap length c.rows_of_others-others.ensures ∙ length-others p rs c.requires.few in
    let n : length c.loop-f.yielded ≡ length rs = omega (arith, e, long, c.requires.few) in
    c.loop-f.invariant ∙ ap (marked (place p rs) most_runs) (ap (λ k. take k rs) n ∙ take-length rs) ∙ rows-marked p rs
