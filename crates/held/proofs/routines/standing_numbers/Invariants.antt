-- Before mark f those of the first f runs are taken down that stand.
use Rattle.exact.proofs.Ground.{◌≡◌, take}
use Rattle.held.specs.Held.{marks_in, standing}
use Rattle.held.proofs.routines.standing_numbers.Given as goal

abbrev pub invariant-loop-f : goal.invariant-loop-f
invariant-loop-f l = l.standing ≡ standing (take l.f (marks_in l.held))
