-- Those of the first x levels that are in the group.
use Rattle.exact.proofs.Ground.{◌≡◌}
use Rattle.tell_lines.specs.Parts.{members_of}
use Rattle.tell_lines.proofs.routines.members_of.Given as goal

abbrev pub invariant-loop-x : goal.invariant-loop-x
invariant-loop-x l = l.members ≡ members_of l.groups l.x l.k
