-- What the lengths that are left decide is, at every turn, what all of them decide.
use Rattle.exact.proofs.Ground.{◌≡◌, map, take}
use Rattle.compare.specs.Compare.{over, compare_patterns}
use Rattle.compare.proofs.Turns.{Words}
use Rattle.compare.proofs.routines.compare_words.Given as goal

abbrev pub invariant-loop-x : goal.invariant-loop-x
invariant-loop-x l =
    let xs = l.x-iterator.a.rest.now in
    let ys = l.x-iterator.b.rest.now in
    (compare_patterns (map (over l.n) xs) (map (over l.k) ys) ≡ compare_patterns (map (over l.n) (take l.m l.a)) (map (over l.k) (take l.m l.b)))
    × Words l.n xs × Words l.k ys
