-- The counters are those of the numbers passed.
use Rattle.exact.proofs.Ground.{List, ◌≡◌, ℕ, ◌≤◌, ◌<◌, ◌+◌, ◌*◌, arith, length, get_or, take_all}
use Rattle.rules.specs.Plan.{most_runs}
use Rattle.parts.specs.Parts.{longer}
use Rattle.set_ratios.proofs.Tallied.{tallied-turn, tally-small, longer-at, longer-length}
use Rattle.set_ratios.proofs.count.Goals.{In-loop-k}
use Rattle.set_ratios.proofs.count.Goals as goal

-- the number of a turn
module _ (c : In-loop-k) where
  abbrev xs : List ℕ
  xs = longer c.args.level c.args.numbers.now c.args.digits.now

  abbrev x : ℕ
  x = get_or c.args.numbers.now c.loop-k.k 0 * c.args.level + get_or c.args.digits.now c.loop-k.k 0

  small : x < length c.args.counters.now
  small = c.requires.by_index c.loop-k.k (omega arith)

  same : get_or xs c.loop-k.k 0 ≡ x
  same = longer-at c.args.level c.args.numbers.now c.args.digits.now c.loop-k.k (omega arith)

  within : c.loop-k.k < length xs
  within = omega (arith, longer-length c.args.level c.args.numbers.now c.args.digits.now)

  counter : get_or c.loop-k.counters x 0 ≤ most_runs
  counter =
      omega (
        arith,
        tally-small (length c.args.counters.now) xs c.loop-k.k within x same small c.loop-k.counters c.loop-k.invariant,
        longer-length c.args.level c.args.numbers.now c.args.digits.now,
        c.requires.numbers_len_bound.0,
      )

pub overflow_add-counters : goal.overflow_add-counters
overflow_add-counters c =
    rw (c.from.ensures, c.from-levels.ensures, c.from-in-loop-k.ensures) (omega (arith, counter (goal.at.overflow_add-counters c).In-loop-k))

pub loop-k-preserved : goal.loop-k-preserved
loop-k-preserved c =
    let d = (goal.at.loop-k-preserved c).In-loop-k in
    rw (c.from.ensures, c.from-levels.ensures, c.from-in-loop-k.ensures)
    (tallied-turn (length c.args.counters.now) (xs d) c.loop-k.k (within d) (x d) (same d) (small d) c.loop-k.counters c.loop-k.invariant)

pub returns : goal.returns
returns c =
    let ys = longer c.args.level c.args.numbers.now c.args.digits.now in
    let l : length ys ≤ c.loop-k.k = omega (arith, longer-length c.args.level c.args.numbers.now c.args.digits.now) in
    rw (take_all c.loop-k.k ys l) at c.loop-k.invariant
