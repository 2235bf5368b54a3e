-- The run at the place kept is what the loop over the runs keeps, and the row sums decide as the losses do.
use Rattle.exact.proofs.Ground.{◌≡◌, ◌∙◌, sym, ap, arith, get_or}
use Rattle.exact.specs.Fractions.{is_better}
use Rattle.best.specs.Best.{lowest}
use Rattle.best.proofs.Best.{so-far-first, so-far-next, so-far-all}
use Rattle.rules.specs.Plan.{plan}
use Rattle.advice.specs.Advice.{loss_order, advice}
use Rattle.advice.proofs.Optimal.{losses-lawful}
use Rattle.advice.proofs.RowSums.{length_at, rows-decide}
use Rattle.advice.proofs.routines.advice.Goals.{then-larger_row, else-larger_row}
use Rattle.advice.proofs.routines.advice.Goals as goal

pub rows_of_others-rows-requires : goal.rows_of_others-rows-requires
rows_of_others-rows-requires c = c.requires.0.sound

pub loop-i-init : goal.loop-i-init
loop-i-init c =
    let p = plan c.args.levels.now c.args.table.now in
    let rs = c.args.runs.now in
    let lawful = losses-lawful p rs c.requires.0.rising c.requires.1 in
    (omega arith, so-far-first lawful lowest 0 rs (λ f m. m) (omega arith))

pub larger_row-requires : goal.larger_row-requires
larger_row-requires c =
    let p = plan c.args.levels.now c.args.table.now in
    let long = length_at p c.args.runs.now c.requires.0 c.rows_of_others-rows.ensures in
    (long c.loop-i.i (omega arith), (long c.loop-i.best (omega arith), c.requires.0.sound.columns-high))

pub loop-i-preserved : goal.loop-i-preserved
loop-i-preserved c =
    let p = plan c.args.levels.now c.args.table.now in
    let rs = c.args.runs.now in
    let i = c.loop-i.i in
    let best = c.loop-i.best in
    let decide = rows-decide p rs c.requires.0 c.rows_of_others-rows.ensures c.requires.1 in
    -- the test is that of the two losses
    let decided : c.larger_row.result ≡ is_better (loss_order p rs (get_or rs i 0) (get_or rs best 0))
    = c.larger_row.ensures ∙ ap is_better (decide i best (omega arith) (omega arith)) in
    let next = so-far-next c.loop-i.invariant.1 (omega arith) in
    elim c.if-larger_row.branch [
      | then-larger_row w ↦ rw w.best-is (omega arith, rw (sym decided ∙ w.if-larger_row.true) at next)
      | else-larger_row w ↦ rw w.best-is (omega arith, rw (sym decided ∙ w.if-larger_row.false) at next)
    ]

pub returns : goal.returns
unfolding advice
returns c = so-far-all c.loop-i.invariant.1 (omega arith)
