-- How many of the columns passed have the level.
use Rattle.exact.proofs.Ground.{◌≡◌, eqb, get_or}
use Rattle.exact.specs.Lists.{from, count}
use Rattle.cells.proofs.strides.members_of.Given as goal

abbrev pub invariant-loop-level : goal.invariant-loop-level
invariant-loop-level l = l.k ≡ count (λ x. eqb l.s (get_or l.levels x 0)) (from 0 l.level-index)
