-- The entries of the runs passed are in the room.
use Rattle.exact.proofs.Ground.{Memᴰ, ℕ, ◌≤◌, ◌*◌, arith, length, get_or}
use Rattle.exact.proofs.Numbers.{mul-below}
use Rattle.exact.proofs.Members.{get_or-mem}
use Rattle.rules.specs.Plan.{plan, most_runs, most_columns}
use Rattle.parts.proofs.TurnedEntries.{column-next}
use Rattle.parts.proofs.turn_column.Goals.{In-loop-k}
use Rattle.parts.proofs.turn_column.Goals as goal

-- the run of a turn
module _ (c : In-loop-k) where
  abbrev f : ℕ
  f = get_or c.args.runs.now c.loop-k.k 0

  member : Memᴰ f c.args.runs.now
  member = get_or-mem c.args.runs.now c.loop-k.k 0 (omega arith)

  starts : f * length c.args.levels.now ≤ most_runs * most_columns
  starts =
      let S = c.requires.sound in
      mul-below f (length c.args.levels.now) most_runs most_columns (let q = S.numbered f member in omega arith) S.columns-high

pub overflow_mul-start : goal.overflow_mul-start
overflow_mul-start c = omega (arith, starts (goal.at.overflow_mul-start c).In-loop-k)

pub overflow_add-room : goal.overflow_add-room
overflow_add-room c = omega (arith, starts (goal.at.overflow_add-room c).In-loop-k, c.requires.sound.columns-high, c.requires.column_in_bounds.0)

pub bounds-table-start : goal.bounds-table-start
bounds-table-start c =
    let d = (goal.at.bounds-table-start c).In-loop-k in omega (arith, c.requires.sound.inside (f d) (member d), c.requires.column_in_bounds.0)

pub loop-k-preserved : goal.loop-k-preserved
loop-k-preserved c =
    let a = c.args in
    column-next (plan a.levels.now a.table.now) a.column a.room.now a.at a.runs.now c.loop-k.k c.loop-k.room c.loop-k.invariant (omega arith)
    (omega (arith, c.requires.column_in_bounds.1))
