-- A column is taken where its level is above one.
use Rattle.exact.proofs.Ground.{ap, arith, length}
use Rattle.plan.proofs.Several.{several-room, walk-several, walk-one}
use Rattle.plan.proofs.routines.several_levels.Goals as goal

pub push-requires : goal.push-requires
push-requires c =
    let e = ap length c.loop-i.invariant in
    (omega arith, omega (arith, e, several-room c.args.levels.now c.loop-i.i))

pub loop-i-preserved : goal.loop-i-preserved
loop-i-preserved c =
    let taken = walk-several c.args.levels.now c.loop-i.i in
    let passed = walk-one c.args.levels.now c.loop-i.i in
    grind (arith, taken, passed)
