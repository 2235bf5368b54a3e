-- A cell that has no pair adds nothing, and any other its pair so many times.
use Rattle.exact.proofs.Ground.{List, ◌≡◌, ◌∙◌, sym, ap, ap₂, ℕ, ◌/◌, ◌%◌, ◌^◌, arith, ℤ, take, drop}
use Rattle.rules.specs.Plan.{Plan, plan, highest_product}
use Rattle.pairs.specs.Lists.{pair_list}
use Rattle.cells.specs.Cells.{pair_row}
use Rattle.tally.specs.Tally.{added_times, Runs}
use Rattle.tally.proofs.Turns.{row-less, pair-row, pair-longer, times_none}
use Rattle.tally.proofs.routines.settle_cell.Goals as goal

-- the pair's sums from length 1 on
longer : (p : Plan) (x : ℕ) {f g : ℕ} (sums : List ℤ) → f ≡ x / 256 → g ≡ x % 256 → sums ≡ pair_list p f g →
    take 24 (drop 1 sums) ≡ pair_row p (x / 256) (x % 256)
longer p x sums d e s = ap (λ r. take 24 (drop 1 r)) (s ∙ ap₂ (pair_list p) d e) ∙ pair-longer p (x / 256) (x % 256)

pub returns-then-times-eq0 : goal.returns-then-times-eq0
returns-then-times-eq0 c =
    let p = plan c.args.levels.now c.args.table.now in let x = c.args.x in
    let e : c.args.times ≡ 0 = c.if-times-eq0.true in
    sym (ap (λ n. added_times n c.args.total.now (pair_row p (x / 256) (x % 256))) e
    ∙ times_none c.args.total.now (pair_row p (x / 256) (x % 256)) c.requires.0.long)

pub add_times-requires : goal.add_times-requires
add_times-requires c =
    let p = plan c.args.levels.now c.args.table.now in let x = c.args.x in
    let b : Runs p x = c.requires.1 (let ne : ¬ (c.args.times ≡ 0) = c.if-times-eq0.false in omega arith) in (
      row-less (2 ^ 60) (2 ^ 61) _ (omega arith) c.requires.0,
      rw (longer p x c.pair-sums.result c.from.ensures c.from-2.ensures c.pair-sums.ensures)
          (row-less highest_product (2 ^ 32) _ (omega arith) (pair-row p (x / 256) (x % 256) b.first b.second)),
    )

pub returns : goal.returns
returns c =
    let p = plan c.args.levels.now c.args.table.now in let x = c.args.x in
    c.add_times.ensures ∙ ap (added_times c.args.times c.args.total.now) (longer p x c.pair-sums.result c.from.ensures c.from-2.ensures c.pair-sums.ensures)
