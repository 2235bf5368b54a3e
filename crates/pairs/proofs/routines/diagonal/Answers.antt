-- A turn takes one column more, in which a run agrees with itself.
use Rattle.exact.proofs.Ground.{List, [], ◌≡◌, ◌∙◌, sym, ap, ap₂, ℕ, ◌<◌, ◌^◌, arith, pos, ℤ, nat_abs, take, drop, w64, to_z, of_z}
use Rattle.exact.proofs.Bits.{of}
use Rattle.rules.specs.Plan.{Plan, plan, columns, level, every_column}
use Rattle.plan.specs.Good.{Sound}
use Rattle.pairs.specs.Given.{with_column, added}
use Rattle.pairs.specs.Words.{diagonal}
use Rattle.pairs.specs.Lists.{zeros, diagonal_list}
use Rattle.pairs.proofs.Laws.{score-same}
use Rattle.pairs.proofs.Bound.{less-one}
use Rattle.pairs.proofs.Columns.{so_far, so-far-none, so_far_more, so-far-of}
use Rattle.pairs.proofs.OfPlan.{less_one, diagonal-longer, diagonal-by-length, diagonal-row}
use Rattle.pairs.proofs.Totals.{by-length-row, whole_part, added-zeros}
use Rattle.pairs.proofs.routines.diagonal.Goals as goal

module _ (p : Plan) (S : Sound p []) where
  below : (i : ℕ) → i < columns p → nat_abs (less_one p i) < level p i
  below i h = less-one (level p i) (S.level-low i h)

-- the sums over all columns, from length 1 on
longer : (p : Plan) (sums : List ℤ) (i : ℕ) → i ≡ columns p → sums ≡ so_far (less_one p) i → take 24 (drop 1 sums) ≡ diagonal_list p
longer p sums i e s = ap (λ r. take 24 (drop 1 r)) (s ∙ ap (so_far (less_one p)) e) ∙ diagonal-longer p

pub loop-i-init : goal.loop-i-init
loop-i-init c = sym (so-far-none _)

pub extend-requires : goal.extend-requires
extend-requires c =
    let p = plan c.args.levels.now [] in let S = c.requires in let i = c.loop-i.i in
    let read : to_z w64 (of_z w64 c.score.result) ≡ less_one p i = of c.score.result c.score.type_inv ∙ c.score.ensures ∙ score-same (level p i) 0 in (
      rw c.loop-i.invariant (so-far-of p [] S (less_one p) (below p S) i (omega arith)),
      rw read (omega (arith, below p S i (omega arith), S.level-high i (omega arith))),
    )

pub loop-i-preserved : goal.loop-i-preserved
loop-i-preserved c =
    let p = plan c.args.levels.now [] in
    c.extend.ensures
    ∙ ap₂ with_column (of c.score.result c.score.type_inv ∙ c.score.ensures ∙ score-same (level p c.loop-i.i) 0) c.loop-i.invariant
    ∙ so_far_more (less_one p) c.loop-i.i

pub add_to-requires : goal.add_to-requires
add_to-requires c =
    let p = plan c.args.levels.now [] in (
      by-length-row (λ j. pos 0) (2 ^ 61) (λ j. omega arith),
      rw (longer p c.loop-i.sums c.loop-i.i (omega arith) c.loop-i.invariant) (whole_part (diagonal-row p [] c.requires (2 ^ 61) (omega arith))),
    )

pub returns : goal.returns
returns c =
    let p = plan c.args.levels.now [] in
    c.add_to.ensures
    ∙ ap (added zeros) (longer p c.loop-i.sums c.loop-i.i (omega arith) c.loop-i.invariant ∙ diagonal-by-length p)
    ∙ added-zeros (diagonal (level p) (every_column p))
    ∙ sym (diagonal-by-length p)
