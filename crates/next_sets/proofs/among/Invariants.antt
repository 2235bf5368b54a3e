use Rattle.std.proofs.Common.{◌≡◌, map, get_or}
use Rattle.exact.proofs.Rooms.{copied}
use Rattle.next_sets.proofs.among.Given as goal

abbrev pub invariant-loop-i : goal.invariant-loop-i
invariant-loop-i l = l.set ≡ copied (map (λ j. get_or l.columns j 0) l.places) l.initial.set l.i
