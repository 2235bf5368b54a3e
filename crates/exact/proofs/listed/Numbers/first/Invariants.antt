-- The first k numbers are written.
use Rattle.exact.proofs.Ground.{◌≡◌, ◌++◌, ◌-◌, replicate}
use Rattle.exact.specs.Lists.{from}
use Rattle.exact.proofs.listed.Numbers.first.Given as goal

abbrev pub invariant-loop-k : goal.invariant-loop-k
invariant-loop-k g l = l.places ≡ from 0 l.k ++ replicate (g.row.N - l.k) 0
