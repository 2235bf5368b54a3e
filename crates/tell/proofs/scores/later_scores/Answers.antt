-- A turn adds the score with one run more.
use Rattle.exact.proofs.Ground.{◌≡◌, ◌∙◌, ◌-◌, ◌+◌, arith, ◌+ℤ◌, get_or, drop, w64, to_z, of_z}
use Rattle.exact.specs.Lists.{sum}
use Rattle.exact.proofs.Bits.{of}
use Rattle.exact.proofs.Members.{get_or-mem}
use Rattle.rules.specs.Plan.{plan}
use Rattle.tell.specs.Given.{cell_score}
use Rattle.tell.proofs.Turns.{asked-two}
use Rattle.tell.proofs.Mixed.{row-none, row_small, row-turn}
use Rattle.tell.proofs.scores.later_scores.Goals.{After-cell_score}
use Rattle.tell.proofs.scores.later_scores.Goals as goal

pub loop-k-init : goal.loop-k-init
loop-k-init c =
    let a = c.args in
    record {
      low = omega arith;
      so_far = row-none (plan a.levels.now a.table.now) a.runs.now a.column a.others.now c.requires.0 (get_or a.runs.now a.at 0);
    }

pub cell_score-requires : goal.cell_score-requires
cell_score-requires c =
    let a = c.args in
    asked-two (plan a.levels.now a.table.now) a.runs.now a.column a.others.now c.requires.0 a.at (c.loop-k.k - 1) c.requires.1 (omega arith)

-- the sum of this turn, read back from its bits
turn : (c : After-cell_score) →
    to_z w64 (of_z w64 c.cell_score.result) +ℤ to_z w64 c.loop-k.total-bits
    ≡ sum (drop (c.loop-k.k - 1) c.args.runs.now)
    (cell_score (plan c.args.levels.now c.args.table.now) c.args.column c.args.others.now (get_or c.args.runs.now c.args.at 0))
turn c =
    let a = c.args in
    rw (of c.cell_score.result c.cell_score.type_inv, c.cell_score.ensures, c.loop-k.invariant.so_far)
    (row-turn (plan a.levels.now a.table.now) a.runs.now a.column a.others.now c.requires.0 (get_or a.runs.now a.at 0) c.loop-k.k (omega arith) (omega arith))

pub add-total-requires : goal.add-total-requires
add-total-requires c =
    let a = c.args in
    let f = get_or a.runs.now a.at 0 in
    let m = get_or-mem a.runs.now a.at 0 (omega arith) in
    rw (turn (goal.at.add-total-requires c).After-cell_score)
    (omega (arith, row_small (plan a.levels.now a.table.now) a.runs.now a.column a.others.now c.requires.0 f m (c.loop-k.k - 1)))

pub loop-k-preserved : goal.loop-k-preserved
loop-k-preserved c = record {
  low = omega arith;
  so_far = of c.add-total.result c.add-total.type_inv ∙ c.add-total.ensures ∙ turn (goal.at.loop-k-preserved c).After-cell_score;
}

pub returns : goal.returns
returns c = let z : c.loop-k.k ≡ c.args.at + 1 = omega arith in rw z at c.loop-k.invariant.so_far
