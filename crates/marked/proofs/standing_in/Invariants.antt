-- Before mark f those of the first f runs are taken down that stand.
use Rattle.exact.proofs.Ground.{not, map, ◌≡◌, eqb, take}
use Rattle.held.specs.Held.{standing}
use Rattle.marked.proofs.standing_in.Given as goal

abbrev pub invariant-loop-f : goal.invariant-loop-f
invariant-loop-f l = l.standing ≡ standing (take l.f (map (λ b. not (eqb b 0)) l.marks))
