-- The counters and the squares are those of the numbers passed.
use Rattle.exact.proofs.Ground.{◌≡◌, sym, ◌≤◌, ◌<◌, ◌*◌, arith, get_or, take, length-take-le, take_all}
use Rattle.rules.specs.Plan.{most_runs}
use Rattle.counts.specs.Numbered.{most_numbers}
use Rattle.parts.proofs.Squared.{squares-none, counted-turn, squares-turn, counter-small, squares-small}
use Rattle.parts.proofs.count.Goals.{In-loop-number}
use Rattle.parts.proofs.count.Goals as goal

pub loop-number-init : goal.loop-number-init
loop-number-init c = record { counters = c.requires.1; total = sym squares-none }

module _ (c : In-loop-number) where
  -- 16 bits
  small : get_or c.args.numbers.now c.loop-number.number-index 0 < most_numbers
  small = omega (arith, c.type_inv.numbers c.loop-number.number-index)

  -- a run was counted at most once
  counter : get_or c.loop-number.counters (get_or c.args.numbers.now c.loop-number.number-index 0) 0 ≤ most_runs
  counter =
      omega (
        arith,
        c.requires.0,
        counter-small c.args.numbers.now c.loop-number.number-index c.loop-number.counters c.loop-number.invariant.counters
            (omega arith) small,
      )

  -- the squares so far
  so_far : c.loop-number.total ≤ most_runs * most_runs
  so_far =
      let xs = take c.loop-number.number-index c.args.numbers.now in
      squares-small c.loop-number.total xs c.loop-number.invariant.total
      (omega (arith, length-take-le c.loop-number.number-index c.args.numbers.now (omega arith), c.requires.0))

pub overflow_add-total-in-loop-number : goal.overflow_add-total-in-loop-number
overflow_add-total-in-loop-number c =
    let d = (goal.at.overflow_add-total-in-loop-number c).In-loop-number in
    let e : c.from.result ≤ most_runs = rw (c.from.ensures, c.from-number.ensures) (counter d) in
    omega (arith, so_far d)

pub overflow_add-counters : goal.overflow_add-counters
overflow_add-counters c = rw c.from-number.ensures (omega (arith, counter (goal.at.overflow_add-counters c).In-loop-number))

pub loop-number-preserved : goal.loop-number-preserved
loop-number-preserved c =
    let d = (goal.at.loop-number-preserved c).In-loop-number in
    let xs = c.args.numbers.now in
    let k = c.loop-number.number-index in
    rw (c.from.ensures, c.from-number.ensures) (record {
      counters = counted-turn xs k c.loop-number.counters c.loop-number.invariant.counters (omega arith) (small d);
      total =
          squares-turn xs k c.loop-number.counters c.loop-number.invariant.counters (omega arith) (small d) c.loop-number.total
          c.loop-number.invariant.total;
    })

pub returns : goal.returns
returns c =
    let xs = c.args.numbers.now in
    let all : take c.loop-number.number-index xs ≡ xs = take_all c.loop-number.number-index xs (omega arith) in
    record { squares = rw all at c.loop-number.invariant.total; counters = rw all at c.loop-number.invariant.counters }
