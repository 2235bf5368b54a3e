-- The levels stand in the room, then the lines of the first runs.
use Rattle.rules.specs.Plan.{plan}
use Rattle.writer.proofs.RunWriting.{PutRuns}
use Rattle.writer.proofs.routines.write_lines.Given as goal

abbrev pub invariant-loop-run : goal.invariant-loop-run
invariant-loop-run l = PutRuns (plan l.levels l.table) l.runs l.run-index l.initial.end l.initial.room l.end l.room
