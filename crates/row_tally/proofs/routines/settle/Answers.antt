-- A turn adds the pairs of one cell.
use Rattle.exact.proofs.Ground.{◌≡◌, ◌∙◌, sym, ap, arith, length}
use Rattle.exact.specs.Lists.{from}
use Rattle.rules.specs.Plan.{plan}
use Rattle.pairs.specs.Given.{added}
use Rattle.pairs.proofs.Totals.{totals, totals-none, added_none}
use Rattle.tally.specs.Tally.{of_cell}
use Rattle.tally.proofs.Turns.{cell-turn, cells-row, worth-totals}
use Rattle.row_tally.proofs.Rows.{kept_on, kept_then}
use Rattle.row_tally.proofs.routines.settle.Goals as goal

pub loop-c-init : goal.loop-c-init
loop-c-init c =
    let p = plan c.args.levels.now c.args.table.now in let total = c.args.total.now in (
      sym (ap (added total) (totals-none (of_cell p c.args.counts.now c.args.samples.now)) ∙ added_none total c.requires.0.long),
      kept_on p c.args.known.now c.args.kept.now c.requires.3,
    )

pub settle_cell-requires : goal.settle_cell-requires
settle_cell-requires c =
    let p = plan c.args.levels.now c.args.table.now in let i = c.loop-c.invariant in let k = c.loop-c.c in let T = c.requires.1 in (
      rw i.0 (cells-row p c.args.counts.now c.args.samples.now T c.requires.2 c.args.total.now c.requires.0 k (omega (arith, T.few-counts))),
      i.1.still,
      T.there k,
      T.same k,
    )

pub loop-c-preserved : goal.loop-c-preserved
loop-c-preserved c =
    let p = plan c.args.levels.now c.args.table.now in let i = c.loop-c.invariant in let k = c.loop-c.c in (
      c.settle_cell.ensures.0 ∙ cell-turn p c.args.counts.now c.args.samples.now c.args.total.now c.loop-c.total k i.0,
      kept_then p c.args.known.now c.loop-c.known _ _ i.1.long c.settle_cell.ensures.1,
    )

pub returns : goal.returns
returns c =
    let p = plan c.args.levels.now c.args.table.now in let counts = c.args.counts.now in let samples = c.args.samples.now in
    let e : c.loop-c.c ≡ length counts = omega arith in (
      c.loop-c.invariant.0 ∙ ap (λ n. added c.args.total.now (totals (of_cell p counts samples) (from 0 n))) e ∙ worth-totals p counts samples c.args.total.now,
      c.loop-c.invariant.1,
    )
