-- The counter of that number is one higher.
use Rattle.exact.proofs.Ground.{◌≤◌, ◌<◌, arith, length, get_or}
use Rattle.exact.proofs.Members.{get_or-mem}
use Rattle.rules.specs.Plan.{most_runs}
use Rattle.part_sums.proofs.Counting.{tally-turn, tally-small}
use Rattle.part_sums.proofs.counters.count_one.Goals.{Start}
use Rattle.part_sums.proofs.counters.count_one.Goals as goal

-- the number has a counter, which is small
module _ (c : Start) where
  small : get_or c.args.numbers.now c.args.k 0 < length c.args.counters.now
  small = c.requires.numbers.0.below _ (get_or-mem c.args.numbers.now c.args.k 0 c.requires.numbers.1)

  counter : get_or c.args.counters.now (get_or c.args.numbers.now c.args.k 0) 0 ≤ most_runs
  counter =
      let a = c.args in
      omega (
        arith,
        c.requires.numbers.0.few,
        tally-small (length a.counters.now) a.numbers.now a.k a.counters.now c.requires.counters_value c.requires.numbers.1 small,
      )

pub bounds-counters-number : goal.bounds-counters-number
bounds-counters-number c = rw c.from-number.ensures (small (goal.at.bounds-counters-number c).Start)

pub overflow_add-counters : goal.overflow_add-counters
overflow_add-counters c = rw c.from-number.ensures (omega (arith, counter (goal.at.overflow_add-counters c).Start))

pub bounds-counters-number-2 : goal.bounds-counters-number-2
bounds-counters-number-2 c = rw c.from-number.ensures (small (goal.at.bounds-counters-number-2 c).Start)

pub returns : goal.returns
returns c =
    let a = c.args in
    rw c.from-number.ensures
    (tally-turn (length a.counters.now) a.numbers.now a.k a.counters.now c.requires.counters_value c.requires.numbers.1 (small (goal.at.returns c).Start))
