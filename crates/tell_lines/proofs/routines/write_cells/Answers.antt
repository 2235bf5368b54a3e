-- The loop goes from one number that occurs to the next.
use Rattle.exact.proofs.Ground.{◌+◌, arith}
use Rattle.rules.specs.Plan.{plan}
use Rattle.tell_lines.proofs.CellLoop.{found-later, written_none, written-room, written_next, written_all}
use Rattle.tell_lines.proofs.routines.write_cells.Goals as goal

pub loop-number-init : goal.loop-number-init
loop-number-init c =
    let a = c.args in
    let N = c.requires.numbered in (
      N,
      written_none (plan a.levels.now a.table.now) a.runs.now a.column a.others.now a.groups.now N a.end a.at a.room.now
          c.next_number-number.result (omega (arith, c.requires.runs_in_bounds)) c.next_number-number.ensures,
    )

pub write_numbered-after-requires-clause-numbers_value : goal.write_numbered-after-requires-clause-numbers_value
write_numbered-after-requires-clause-numbers_value c =
    let a = c.args in
    let (N, W) = c.loop-number.invariant in (
      W.there (omega arith),
      written-room (plan a.levels.now a.table.now) a.runs.now a.column a.others.now a.groups.now N a.end W (omega arith) c.requires.runs_in_bounds,
    )

pub loop-number-smaller : goal.loop-number-smaller
loop-number-smaller c =
    let n = c.next_number-number-in-loop-number in
    omega (arith, found-later c.args.numbers.now (c.loop-number.number + 1) c.args.end n.result n.ensures)

pub loop-number-preserved : goal.loop-number-preserved
loop-number-preserved c =
    let a = c.args in
    let n = c.next_number-number-in-loop-number in
    let (N, W) = c.loop-number.invariant in (
      N,
      written_next (plan a.levels.now a.table.now) a.runs.now a.column a.others.now a.groups.now N a.end W (omega arith)
          n.result c.write_numbered-after.ensures n.ensures,
    )

pub returns : goal.returns
returns c =
    let a = c.args in
    let (N, W) = c.loop-number.invariant in
    written_all (plan a.levels.now a.table.now) a.runs.now a.column a.others.now a.groups.now N a.end W (omega arith)
