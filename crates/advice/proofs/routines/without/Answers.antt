-- Of the runs before the present one no more are taken than there are.
use Rattle.exact.proofs.Ground.{ap, arith, length}
use Rattle.advice.proofs.Walks.{without-within}
use Rattle.advice.proofs.routines.without.Goals as goal

pub push-requires : goal.push-requires
push-requires c =
    let runs = c.args.runs.now in
    let i = c.loop-run.run-index in
    let e = ap length c.loop-run.invariant in
    (omega arith, omega (arith, e, without-within c.args.f runs i (omega arith)))
