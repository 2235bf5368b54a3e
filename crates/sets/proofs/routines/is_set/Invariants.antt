-- The numbers are columns that rise exactly when those that are left rise from `low` on, below m.
use Rattle.exact.proofs.Ground.{◌≡◌, drop}
use Rattle.rules.specs.Refusals.{is_set}
use Rattle.sets.proofs.Rising.{rises}
use Rattle.sets.proofs.routines.is_set.Given as goal

abbrev pub invariant-loop-column : goal.invariant-loop-column
invariant-loop-column l = is_set l.m l.columns ≡ rises l.low l.m (drop l.column-index l.columns)
