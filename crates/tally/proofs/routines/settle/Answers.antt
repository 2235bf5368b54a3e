-- A turn adds the pairs of one cell.
use Rattle.exact.proofs.Ground.{[], ◌∷◌, ◌≡◌, ◌∙◌, sym, ap, ap₂, ◌/◌, ◌%◌, arith, length, length-append}
use Rattle.std.proofs.lemmas.Slice.Zip.{zip_turn, zip_end}
use Rattle.exact.specs.Lists.{from}
use Rattle.rules.specs.Plan.{plan}
use Rattle.pairs.specs.Given.{added}
use Rattle.pairs.proofs.Totals.{totals, totals-none, added_none}
use Rattle.cells.specs.Cells.{pair_row}
use Rattle.tally.specs.Tally.{added_times, of_cell}
use Rattle.tally.proofs.Turns.{cell-turn, cells-row, worth-totals}
use Rattle.tally.proofs.routines.settle.Goals as goal

pub loop-times-init : goal.loop-times-init
loop-times-init c =
    let p = plan c.args.levels.now c.args.table.now in let total = c.args.total.now in
    sym (ap (added total) (totals-none (of_cell p c.args.counts.now c.args.samples.now)) ∙ added_none total c.requires.0.long)

pub settle_cell-requires : goal.settle_cell-requires
settle_cell-requires c =
    let p = plan c.args.levels.now c.args.table.now in let counts = c.args.counts.now in let samples = c.args.samples.now in
    let k = length c.loop-times.yielded in
    let t = zip_turn counts samples c.loop-times.yielded c.into_iter-times-iterator.result c.loop-times.times-iterator c.next.new.self c.next.result
    (cc) (cc) c.loop-times.yielded_by (c.in-Some.times, c.in-Some.x) c.in-Some.is c.next.ensures.steps in (
      rw c.loop-times.invariant
          (cells-row p counts samples c.requires.1 c.requires.2 c.args.total.now c.requires.0 k (omega (arith, t.0, c.requires.1.few-counts))),
      rw (t.2 0, t.3 0) (c.requires.1.there k),
    )

pub loop-times-preserved : goal.loop-times-preserved
loop-times-preserved c =
    let p = plan c.args.levels.now c.args.table.now in let counts = c.args.counts.now in let samples = c.args.samples.now in
    let total = c.args.total.now in let now = c.loop-times.total in let k = length c.loop-times.yielded in
    let t = zip_turn counts samples c.loop-times.yielded c.into_iter-times-iterator.result c.loop-times.times-iterator c.next.new.self c.next.result
    (cc) (cc) c.loop-times.yielded_by (c.in-Some.times, c.in-Some.x) c.in-Some.is c.next.ensures.steps in
    c.settle_cell.ensures
    ∙ ap₂ (λ n x. added_times n now (pair_row p (x / 256) (x % 256))) (t.2 0) (t.3 0)
    ∙ cell-turn p counts samples total now k c.loop-times.invariant
    ∙ ap (λ n. added total (totals (of_cell p counts samples) (from 0 n))) (sym (length-append c.loop-times.yielded ((c.in-Some.times, c.in-Some.x) ∷ [])))

pub returns : goal.returns
returns c =
    let p = plan c.args.levels.now c.args.table.now in let counts = c.args.counts.now in let samples = c.args.samples.now in
    let e = zip_end counts samples c.loop-times.yielded c.into_iter-times-iterator.result c.loop-times.times-iterator c.next.new.self c.next.result
    (cc) (cc) c.loop-times.yielded_by c.in-None.is c.next.ensures.steps in
    let n : length c.loop-times.yielded ≡ length counts = omega (arith, e, c.requires.1.long-pairs) in
    c.loop-times.invariant ∙ ap (λ n. added c.args.total.now (totals (of_cell p counts samples) (from 0 n))) n ∙ worth-totals p counts samples c.args.total.now
