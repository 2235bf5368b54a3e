-- One more column is written.
use Rattle.exact.proofs.Ground.{map, ◌∙◌, ℕ, ◌<◌, arith, length, get_or, length-map}
use Rattle.exact.proofs.Rooms.{copy-next, copy-all}
use Rattle.exact.proofs.Lists.{get_d_map}
use Rattle.next_sets.proofs.among.Goals as goal

pub loop-i-preserved : goal.loop-i-preserved
loop-i-preserved c =
    let a = c.args in
    let i = c.loop-i.i in
    let column : ℕ → ℕ = λ j. get_or a.columns.now j 0 in
    let k : i < length a.places.now = omega arith in
    rw (c.loop-i.invariant, ← (get_d_map column a.places.now i 0 0 k))
    (copy-next (map column a.places.now) a.set.now i 0 (rw (length-map a.places.now column) k) (omega (arith, c.requires.places_in_bounds)))

pub returns : goal.returns
returns c =
    let a = c.args in
    let column : ℕ → ℕ = λ j. get_or a.columns.now j 0 in
    c.loop-i.invariant ∙ copy-all (map column a.places.now) a.set.now c.loop-i.i (rw (length-map a.places.now column) (omega arith))
