-- None below `low` is as large, and the one at `high` is.
use Rattle.exact.proofs.Ground.{◌-◌}
use Rattle.projection_tables.specs.Given.{not_smaller}
use Rattle.projection_tables.proofs.Halves.{Halved}
use Rattle.projection_tables.proofs.routines.place_of.Given as goal

abbrev pub invariant-loop-low : goal.invariant-loop-low
invariant-loop-low l = Halved (not_smaller l.nums l.dens l.value) l.used l.low l.high

abbrev pub decreases-loop-low : goal.decreases-loop-low
decreases-loop-low l = l.high - l.low
