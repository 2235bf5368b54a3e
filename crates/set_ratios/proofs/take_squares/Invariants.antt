use Rattle.exact.proofs.Ground.{◌≡◌, ◌≤◌, ◌*◌, pos, take}
use Rattle.set_ratios.specs.Given.{squares_in, cleared}
use Rattle.set_ratios.proofs.take_squares.Given as goal

abbrev pub invariant-loop-counter : goal.invariant-loop-counter
invariant-loop-counter l = record {
  small : l.total ≤ l.counter-index * 65_536;
  squares : pos l.total ≡ squares_in (take l.counter-index l.initial.front);
  cleared : l.front ≡ cleared l.counter-index l.initial.front;
}
