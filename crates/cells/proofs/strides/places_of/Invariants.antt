-- No stride is above the window.
use Rattle.exact.proofs.Ground.{◌≤◌, ◌+◌, ◌*◌}
use Rattle.cells.proofs.strides.places_of.Given as goal

abbrev pub invariant-loop-stride : goal.invariant-loop-stride
invariant-loop-stride l = l.all ≤ 2_560 * l.stride-index + 1
