use Rattle.exact.proofs.Ground.{rules}
use Rattle.rules.specs.Plan.{plan, every_run}
use Rattle.asked.proofs.Rows.{plan-turns}
use Rattle.asked.proofs.asked_in_turn.Goals as goal

pub in_row-requires : goal.in_row-requires
in_row-requires c =
    let p = plan c.args.levels.now c.args.table.now in
    rw c.in_turn-answer.ensures (search rules, (search rules, plan-turns p (every_run p) c.args.k))
