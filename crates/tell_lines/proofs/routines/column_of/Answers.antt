-- Each run lies in the plan.
use Rattle.exact.proofs.Ground.{[], arith}
use Rattle.rules.specs.Plan.{plan}
use Rattle.tell.proofs.Turns.{asked-run}
use Rattle.tell_lines.proofs.routines.column_of.Goals as goal

pub entry_at-requires : goal.entry_at-requires
entry_at-requires c =
    asked-run (plan c.args.levels.now c.args.table.now) c.args.runs.now c.args.column [] c.requires c.loop-run.run-index (omega arith)
