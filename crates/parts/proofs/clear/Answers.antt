-- The counters are those of the numbers that are left.
use Rattle.exact.proofs.Ground.{◌<◌, arith, get_or}
use Rattle.counts.specs.Numbered.{most_numbers}
use Rattle.parts.proofs.Squared.{uncounted-turn, counter-some}
use Rattle.parts.proofs.clear.Goals.{In-loop-number}
use Rattle.parts.proofs.clear.Goals as goal

-- 16 bits
small : (c : In-loop-number) → get_or c.args.numbers.now c.loop-number.number-index 0 < most_numbers
small c = omega (arith, c.type_inv.numbers c.loop-number.number-index)

pub overflow_sub-counters : goal.overflow_sub-counters
overflow_sub-counters c =
    rw c.from-number.ensures
    (counter-some c.args.numbers.now c.loop-number.number-index c.loop-number.counters c.loop-number.invariant (omega arith)
    (small (goal.at.overflow_sub-counters c).In-loop-number))

pub loop-number-preserved : goal.loop-number-preserved
loop-number-preserved c =
    rw c.from-number.ensures
    (uncounted-turn c.args.numbers.now c.loop-number.number-index c.loop-number.counters c.loop-number.invariant (omega arith)
    (small (goal.at.loop-number-preserved c).In-loop-number))
