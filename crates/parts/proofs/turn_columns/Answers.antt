-- The columns passed are in the room.
use Rattle.exact.proofs.Ground.{◌∙◌, ◌≤◌, ◌+◌, ◌*◌, le_trans, arith, length}
use Rattle.exact.proofs.Numbers.{row_within}
use Rattle.exact.proofs.Members.{get_or-mem}
use Rattle.rules.specs.Plan.{plan, entry}
use Rattle.parts.proofs.TurnedEntries.{turned-next}
use Rattle.parts.proofs.turn_columns.Goals.{In-loop-t}
use Rattle.parts.proofs.turn_columns.Goals as goal

-- the room is long enough
row : (c : In-loop-t) → c.loop-t.t * length c.args.runs.now + length c.args.runs.now ≤ length c.args.room.now
row c = le_trans (row_within c.loop-t.t (length c.args.columns.now) (length c.args.runs.now) (omega arith)) c.requires.columns.1

pub turn_column-requires-clause-column_in_bounds : goal.turn_column-requires-clause-column_in_bounds
turn_column-requires-clause-column_in_bounds c =
    let d = (goal.at.turn_column-requires-clause-column_in_bounds c).In-loop-t in
    (c.requires.columns.0.inside _ (get_or-mem c.args.columns.now c.loop-t.t 0 (omega arith)), omega (arith, row d))

pub loop-t-preserved : goal.loop-t-preserved
loop-t-preserved c =
    let p = plan c.args.levels.now c.args.table.now in
    c.turn_column.ensures
    ∙ turned-next (entry p) c.args.runs.now c.args.columns.now (length c.args.room.now) c.loop-t.t 0 c.loop-t.room c.loop-t.invariant (omega arith)
    c.requires.columns.1
