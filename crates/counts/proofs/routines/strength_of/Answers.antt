-- The largest t up to the present one is, at each turn, the largest of all.
use Rattle.exact.proofs.Ground.{◌≡◌, arith}
use Rattle.rules.specs.Plan.{plan}
use Rattle.counts.proofs.Turns.{found-top, found_here, found-lower}
use Rattle.counts.proofs.routines.strength_of.Goals as goal

pub loop-t-init : goal.loop-t-init
loop-t-init c = found-top (plan c.args.levels.now c.args.table.now) c.args.runs.now c.args.columns.now

pub returns-then-is_balanced : goal.returns-then-is_balanced
returns-then-is_balanced c =
    found_here (plan c.args.levels.now c.args.table.now) c.args.runs.now c.args.columns.now c.loop-t.t c.is_balanced.result (omega arith)
    c.is_balanced.ensures c.if-is_balanced.true c.loop-t.invariant

pub loop-t-preserved : goal.loop-t-preserved
loop-t-preserved c =
    found-lower (plan c.args.levels.now c.args.table.now) c.args.runs.now c.args.columns.now c.loop-t.t c.is_balanced.result (omega arith)
    c.is_balanced.ensures c.if-is_balanced.false c.loop-t.invariant

pub returns : goal.returns
returns c = let e : c.loop-t.t ≡ 0 = omega arith in rw e at c.loop-t.invariant
