-- A turn adds the pairs of one run more, from the last one down, with the later runs.
use Rattle.exact.proofs.Ground.{arith}
use Rattle.rules.specs.Plan.{plan, every_run}
use Rattle.plan.proofs.Sound.{good-sound}
use Rattle.pairs.proofs.Once.{once-begins, once_next, once-row}
use Rattle.pairs.proofs.routines.once.Goals as goal

pub loop-f-init : goal.loop-f-init
loop-f-init c = once-begins (plan c.args.levels.now c.args.table.now)

pub add_later-requires : goal.add_later-requires
add_later-requires c =
    let p = plan c.args.levels.now c.args.table.now in
    (rw c.loop-f.invariant (once-row p (every_run p) (good-sound p c.requires) c.loop-f.f), (c.requires, omega arith))

pub loop-f-preserved : goal.loop-f-preserved
loop-f-preserved c =
    let p = plan c.args.levels.now c.args.table.now in let f = c.loop-f.f in
    rw (c.add_later.ensures, c.loop-f.invariant) (once_next p f (omega arith) (omega arith))
