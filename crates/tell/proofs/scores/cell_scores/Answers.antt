-- A turn adds the scores of one run more: those with the later runs, counted double, and its own.
use Rattle.exact.proofs.Ground.{◌≡◌, ◌∙◌, ap, ap₂, ◌≤◌, ◌-◌, ◌+◌, ◌*◌, arith, pos, ℤ, nat_abs, ◌*ℤ◌, ◌+ℤ◌, get_or, drop}
use Rattle.exact.proofs.Ground.{w64, to_z, of_z}
use Rattle.exact.specs.Lists.{sum}
use Rattle.exact.proofs.Bits.{of}
use Rattle.exact.proofs.Order.{nat_abs-+, nat_abs-*}
use Rattle.exact.proofs.Members.{get_or-mem}
use Rattle.rules.specs.Plan.{plan, most_runs}
use Rattle.tell.specs.Given.{cell_score}
use Rattle.tell.proofs.Mixed.{most_score, scores_from, row_small, scores-none, scores-small, scores-turn}
use Rattle.tell.proofs.scores.cell_scores.Goals.{After-later_scores-later, After-mul, After-add}
use Rattle.tell.proofs.scores.cell_scores.Goals as goal

pub bounds-levels-column : goal.bounds-levels-column
bounds-levels-column c = c.requires.column

pub loop-k-init : goal.loop-k-init
loop-k-init c =
    let a = c.args in scores-none (plan a.levels.now a.table.now) a.runs.now a.column a.others.now c.requires

pub later_scores-later-requires : goal.later_scores-later-requires
later_scores-later-requires c = (c.requires, omega arith)

-- the scores with the later runs, read back from their bits
module _ (c : After-later_scores-later) where
  abbrev more : ℤ
  more = to_z w64 (of_z w64 c.later_scores-later.result)

  later : more ≡ sum (drop c.loop-k.k c.args.runs.now)
      (cell_score (plan c.args.levels.now c.args.table.now) c.args.column c.args.others.now (get_or c.args.runs.now (c.loop-k.k - 1) 0))
  later =
      let next : c.loop-k.k - 1 + 1 ≡ c.loop-k.k = omega arith in
      rw (of c.later_scores-later.result c.later_scores-later.type_inv, c.later_scores-later.ensures, next)

  later-small : nat_abs more ≤ most_runs * most_score
  later-small =
      let a = c.args in
      let k = c.loop-k.k in
      let m = get_or-mem a.runs.now (k - 1) 0 (omega arith) in
      rw later (row_small (plan a.levels.now a.table.now) a.runs.now a.column a.others.now c.requires (get_or a.runs.now (k - 1) 0) m k)

doubled : (c : After-mul) → to_z w64 (of_z w64 c.mul.result) ≡ pos 2 *ℤ to_z w64 (of_z w64 c.later_scores-later.result)
doubled c = of c.mul.result c.mul.type_inv ∙ c.mul.ensures

pub mul-requires : goal.mul-requires
mul-requires c =
    let d = (goal.at.mul-requires c).After-later_scores-later in omega (arith, nat_abs-* (pos 2) (more d), later-small d)

pub add-requires : goal.add-requires
add-requires c =
    let a = c.args in
    let d = goal.at.add-requires c in
    let l = d.After-later_scores-later in
    let small : nat_abs (to_z w64 c.loop-k.total-bits) ≤ most_runs * (most_runs * most_score)
    = rw c.loop-k.invariant (scores-small (plan a.levels.now a.table.now) a.runs.now a.column a.others.now c.requires c.loop-k.k) in
    rw (doubled d.After-mul)
    (omega (arith, nat_abs-+ (to_z w64 c.loop-k.total-bits) (pos 2 *ℤ more l), nat_abs-* (pos 2) (more l), later-small l))

-- the scores with this run, read back from their bits
turn : (c : After-add) → to_z w64 (of_z w64 c.mul.result) ≡ pos 2 *ℤ sum (drop c.loop-k.k c.args.runs.now)
    (cell_score (plan c.args.levels.now c.args.table.now) c.args.column c.args.others.now (get_or c.args.runs.now (c.loop-k.k - 1) 0)) →
    to_z w64 (of_z w64 c.add.result) +ℤ to_z w64 (of_z w64 c.score-own.result)
    ≡ scores_from (plan c.args.levels.now c.args.table.now) c.args.runs.now c.args.column c.args.others.now (c.loop-k.k - 1)
turn c e =
    let a = c.args in
    let own = c.score-own in
    ap₂ (λ x y. x +ℤ y)
    (of c.add.result c.add.type_inv ∙ c.add.ensures ∙ ap₂ (λ x y. x +ℤ y) c.loop-k.invariant e)
    (of own.result own.type_inv ∙ own.ensures)
    ∙ scores-turn (plan a.levels.now a.table.now) a.runs.now a.column a.others.now c.requires c.loop-k.k 0 (omega arith) (omega arith)

pub add-total-requires : goal.add-total-requires
add-total-requires c =
    let a = c.args in
    let d = goal.at.add-total-requires c in
    rw (turn d.After-add (doubled d.After-mul ∙ ap (λ z. pos 2 *ℤ z) (later d.After-later_scores-later)))
    (omega (arith, scores-small (plan a.levels.now a.table.now) a.runs.now a.column a.others.now c.requires (c.loop-k.k - 1)))

pub loop-k-preserved : goal.loop-k-preserved
loop-k-preserved c =
    let d = goal.at.loop-k-preserved c in
    of c.add-total.result c.add-total.type_inv ∙ c.add-total.ensures
    ∙ turn d.After-add (doubled d.After-mul ∙ ap (λ z. pos 2 *ℤ z) (later d.After-later_scores-later))

pub returns : goal.returns
returns c = let z : c.loop-k.k ≡ 0 = omega arith in rw z at c.loop-k.invariant
