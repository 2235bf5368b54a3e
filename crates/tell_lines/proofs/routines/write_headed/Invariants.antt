-- The others so far stand behind the head.
use Rattle.exact.proofs.Ground.{◌≡◌, ◌∷◌, take}
use Rattle.tell_lines.proofs.routines.write_headed.Given as goal

abbrev pub invariant-loop-other : goal.invariant-loop-other
invariant-loop-other l = l.numbers ≡ l.head ∷ take l.other-index l.others
