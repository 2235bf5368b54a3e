-- What the lengths that are left decide is, at every turn, what all of them decide.
use Rattle.exact.proofs.Ground.{◌≡◌, take}
use Rattle.advice.specs.Rows.{larger_row}
use Rattle.advice.proofs.routines.larger_row.Given as goal

abbrev pub invariant-loop-x : goal.invariant-loop-x
invariant-loop-x l =
    larger_row l.x-iterator.a.rest.now l.x-iterator.b.rest.now ≡ larger_row (take l.m l.a.sums) (take l.m l.b.sums)
