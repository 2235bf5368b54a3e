-- The counters at the places passed are cleared, and `total` has their squares.
use Rattle.exact.proofs.Ground.{ℕ, ◌≤◌, ◌<◌, ◌+◌, ◌*◌, arith, length, get_or}
use Rattle.exact.proofs.Members.{get_or-mem}
use Rattle.rules.specs.Plan.{most_runs}
use Rattle.part_sums.proofs.Counting.{gathered_none, gathered_next, gathered-all}
use Rattle.part_sums.proofs.counters.gather.Goals.{In-loop-place}
use Rattle.part_sums.proofs.counters.gather.Goals as goal

pub loop-place-init : goal.loop-place-init
loop-place-init c = gathered_none c.args.counters.now c.args.places.now

module _ (c : In-loop-place) where
  abbrev place : ℕ
  place = get_or c.args.places.now c.loop-place.place-index 0

  small : place < length c.args.counters.now
  small = c.requires.numbers.0.below place (get_or-mem c.args.places.now c.loop-place.place-index 0 (omega arith))

  -- what is added stays within the sum of all squares
  squares : c.loop-place.total + get_or c.loop-place.counters place 0 * get_or c.loop-place.counters place 0 ≤ most_runs * most_runs
  squares =
      omega (
        arith,
        (gathered_next c.args.counters.now c.args.places.now c.loop-place.counters c.loop-place.place-index c.loop-place.total small
            c.loop-place.invariant).sum,
        c.requires.numbers.1,
      )

pub bounds-counters-place : goal.bounds-counters-place
bounds-counters-place c =
    rw c.from-place.ensures (omega (arith, small (goal.at.bounds-counters-place c).In-loop-place, c.loop-place.invariant.long))

pub bounds-counters-place-in-loop-place : goal.bounds-counters-place-in-loop-place
bounds-counters-place-in-loop-place c =
    rw c.from-place.ensures (omega (arith, small (goal.at.bounds-counters-place-in-loop-place c).In-loop-place, c.loop-place.invariant.long))

pub overflow_mul-total : goal.overflow_mul-total
overflow_mul-total c =
    rw (c.from-count.ensures, c.from-place.ensures) (omega (arith, squares (goal.at.overflow_mul-total c).In-loop-place))

pub overflow_add-total : goal.overflow_add-total
overflow_add-total c =
    rw (c.from-count.ensures, c.from-place.ensures) (omega (arith, squares (goal.at.overflow_add-total c).In-loop-place))

pub loop-place-preserved : goal.loop-place-preserved
loop-place-preserved c =
    rw (c.from-count.ensures, c.from-place.ensures)
    (gathered_next c.args.counters.now c.args.places.now c.loop-place.counters c.loop-place.place-index c.loop-place.total
    (small (goal.at.loop-place-preserved c).In-loop-place) c.loop-place.invariant)

pub returns : goal.returns
returns c =
    let (squared, cleared) = gathered-all c.args.counters.now c.args.places.now c.loop-place.counters c.loop-place.place-index c.loop-place.total (omega arith)
    c.requires.by_index c.loop-place.invariant in
    record { squares = squared; counters = cleared }
