-- Each run lies in the plan, and the columns have few enough cells.
use Rattle.exact.proofs.Ground.{arith, get_or}
use Rattle.exact.proofs.Members.{get_or-mem}
use Rattle.rules.specs.Plan.{plan}
use Rattle.words.proofs.OfPlan.{sound-run}
use Rattle.tell_lines.proofs.routines.numbers_of.Goals as goal

pub combination-requires-clause-sound : goal.combination-requires-clause-sound
combination-requires-clause-sound c =
    let k = c.loop-run.run-index in
    let rs = c.args.runs.now in
    sound-run (plan c.args.levels.now c.args.table.now) rs c.requires.0 (get_or rs k 0) (get_or-mem rs k 0 (omega arith))
