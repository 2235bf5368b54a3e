-- The counters passed are squared, and zero again.
use Rattle.exact.proofs.Ground.{List, ◌≡◌, ◌∙◌, sym, ap, ℕ, ◌≤◌, ◌<◌, ◌*◌, arith, pos, ◌+ℤ◌, length, get_or, get_or-take, take}
use lib.ListN.{length-take}
use Rattle.exact.proofs.Numbers.{mul-below}
use Rattle.exact.proofs.Rooms.{write-next, read_next}
use Rattle.rules.specs.Plan.{most_runs}
use Rattle.set_ratios.specs.Given.{squares_in}
use Rattle.set_ratios.proofs.Tallied.{squares-next}
use Rattle.set_ratios.proofs.take_squares.Goals.{In-loop-counter}
use Rattle.set_ratios.proofs.take_squares.Goals as goal

-- the counter of a turn is as it was
module _ (c : In-loop-counter) where
  abbrev C : List ℕ
  C = take c.args.many c.args.counters.now

  abbrev k : ℕ
  k = c.loop-counter.counter-index

  within : k < length C
  within = omega arith

  read : get_or c.loop-counter.front k 0 ≡ get_or C k 0
  read = ap (λ d. get_or d k 0) c.loop-counter.invariant.cleared ∙ read_next (λ k. 0) C k 0 within

  few : get_or c.loop-counter.front k 0 ≤ most_runs
  few =
      let h = length-take c.args.many c.args.counters.now in
      rw (read, get_or-take c.args.many c.args.counters.now k 0 (omega arith)) (c.requires.by_index k (omega arith))

  small : get_or c.loop-counter.front k 0 * get_or c.loop-counter.front k 0 ≤ 65_536
  small = mul-below _ _ most_runs most_runs few few

pub loop-counter-preserved : goal.loop-counter-preserved
loop-counter-preserved c =
    let d = (goal.at.loop-counter-preserved c).In-loop-counter in
    let x = get_or c.loop-counter.front c.loop-counter.counter-index 0 in
    rw c.from-times.ensures (record {
      small = omega (arith, small d, c.loop-counter.invariant.small);
      squares =
          ap (λ z. z +ℤ pos (x * x)) c.loop-counter.invariant.squares
          ∙ ap (λ x. squares_in (take c.loop-counter.counter-index (C d)) +ℤ pos (x * x)) (read d)
          ∙ sym (squares-next (C d) c.loop-counter.counter-index (within d));
      cleared = rw c.loop-counter.invariant.cleared (write-next (λ k. 0) (C d) c.loop-counter.counter-index 0 (within d));
    })
