-- The columns written so far, then the set at place `left` of the columns left, are the set at place k.
use Rattle.exact.proofs.Ground.{◌-◌, length}
use Rattle.sets.proofs.Walks.{Choosing}
use Rattle.sets.proofs.routines.set_at.Given as goal

abbrev pub invariant-loop-binomials : goal.invariant-loop-binomials
invariant-loop-binomials g l = Choosing l.m l.j l.k l.column (length l.columns) l.left l.columns

abbrev pub decreases-loop-binomials : goal.decreases-loop-binomials
decreases-loop-binomials g l = l.m - l.column
