-- A cell that has no pair adds nothing, and any other its row so many times.
use Rattle.exact.proofs.Ground.{List, ◌≡◌, ◌∙◌, sym, ap, ℕ, ◌<◌, ◌+◌, ◌*◌, ◌-◌, ◌/◌, ◌%◌, ◌^◌, arith, ℤ, get_or, take, drop}
use Rattle.rules.specs.Plan.{Plan, plan, highest_product}
use Rattle.cells.specs.Cells.{cell_of, pair_row}
use Rattle.tally.specs.Tally.{added_times}
use Rattle.tally.proofs.Turns.{row-less, pair-row, times_none}
use Rattle.row_tally.specs.Kept.{Kept}
use Rattle.row_tally.proofs.Rows.{kept_on}
use Rattle.row_tally.proofs.routines.settle_cell.Goals as goal

-- the row of the cell, as it is read
read : (p : Plan) (known : List ℕ) (kept : List ℤ) → Kept p known kept → (c x : ℕ) → 0 < get_or known c 0 → cell_of p (x / 256) (x % 256) ≡ c →
    take (c * 24 + 24 - c * 24) (drop (c * 24) kept) ≡ pair_row p (x / 256) (x % 256)
read p known kept K c x h e =
    let n : c * 24 + 24 - c * 24 ≡ 24 = omega arith in
    ap (λ n. take n (drop (c * 24) kept)) n ∙ K.row c h (x / 256) (x % 256) e

-- a cell that has a pair
some : {n : ℕ} → ¬ (n ≡ 0) → 0 < n
some h = omega arith

pub returns-then-times-eq0 : goal.returns-then-times-eq0
returns-then-times-eq0 c =
    let p = plan c.args.levels.now c.args.table.now in let row = pair_row p (c.args.x / 256) (c.args.x % 256) in (
      sym (ap (λ n. added_times n c.args.total.now row) c.if-times-eq0.true ∙ times_none c.args.total.now row c.requires.0.long),
      kept_on p c.args.known.now c.args.kept.now c.requires.1,
    )

pub keep-requires : goal.keep-requires
keep-requires c = let h = some c.if-times-eq0.false in (c.requires.1, omega arith, c.requires.2 h, c.requires.3 h)

pub add_times-requires : goal.add_times-requires
add_times-requires c =
    let p = plan c.args.levels.now c.args.table.now in let x = c.args.x in let h = some c.if-times-eq0.false in let R = c.requires.2 h in
    let K = c.keep.ensures in (
      row-less (2 ^ 60) (2 ^ 61) c.args.total.now (omega arith) c.requires.0,
      rw (read p c.keep.new.known c.keep.new.kept K.0.still c.args.c x K.1 (c.requires.3 h))
          (row-less highest_product (2 ^ 32) _ (omega arith) (pair-row p (x / 256) (x % 256) R.first R.second)),
    )

pub returns-then-c-known : goal.returns-then-c-known
returns-then-c-known c =
    let p = plan c.args.levels.now c.args.table.now in let h = some c.if-times-eq0.false in let K = c.keep.ensures in (
      c.add_times.ensures
          ∙ ap (added_times c.args.times c.args.total.now) (read p c.keep.new.known c.keep.new.kept K.0.still c.args.c c.args.x K.1 (c.requires.3 h)),
      K.0,
    )
