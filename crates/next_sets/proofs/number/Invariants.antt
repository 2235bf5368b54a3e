use Rattle.std.proofs.Common.{◌≡◌, take}
use Rattle.exact.specs.Lists.{from}
use Rattle.next_sets.proofs.number.Given as goal

abbrev pub invariant-loop-i : goal.invariant-loop-i
invariant-loop-i l = take l.i l.room ≡ from l.low l.i
