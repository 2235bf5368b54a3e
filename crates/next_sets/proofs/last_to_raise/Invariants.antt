use Rattle.exact.proofs.Ground.{true, ◌≡◌, ◌≤◌, drop}
use Rattle.next_sets.specs.Next.{is_last}
use Rattle.next_sets.proofs.last_to_raise.Given as goal

abbrev pub invariant-loop-p : goal.invariant-loop-p
invariant-loop-p l = record { some : 1 ≤ l.p; behind : is_last l.m (drop l.p l.set) ≡ true }
