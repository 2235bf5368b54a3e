use Rattle.exact.proofs.Ground.{◌≡◌, ◌+◌, map, take, get_or}
use Rattle.exact.specs.Lists.{smallest}
use Rattle.set_words.proofs.routines.smallest_level.Given as goal

abbrev pub invariant-loop-i : goal.invariant-loop-i
invariant-loop-i l = l.lowest ≡ smallest (map (λ i. get_or l.levels i 0) (take (l.i-index + 1) l.columns))
