-- The column that is raised is below m, and the columns from there on become a row of numbers.
use Rattle.exact.proofs.Ground.{◌≡◌, ◌∙◌, ap, ◌<◌, ◌+◌, ◌-◌, ◌++◌, arith, length, get_or, take, drop, length-take-le, length-drop}
use Rattle.exact.specs.Lists.{from}
use Rattle.next_sets.specs.Next.{next_set}
use Rattle.next_sets.proofs.Steps.{column-below, next_row, put_row}
use Rattle.next_sets.proofs.next_set.Goals.{After-last_to_raise-p}
use Rattle.next_sets.proofs.next_set.Goals as goal

-- the place is one of the set's, and the column there is below m
raised : (c : After-last_to_raise-p) → c.last_to_raise-p.result < c.args.f
raised c = omega (arith, c.last_to_raise-p.ensures.0, length-take-le c.args.f c.args.set.now (omega arith))

low : (c : After-last_to_raise-p) → get_or c.args.set.now c.last_to_raise-p.result 0 < c.args.m
low c = column-below c.args.m c.args.f c.args.set.now (omega arith) c.requires.3 c.last_to_raise-p.result (raised c)

pub overflow_add-column : goal.overflow_add-column
overflow_add-column c = omega (arith, low (goal.at.overflow_add-column c).After-last_to_raise-p)

pub number-requires : goal.number-requires
number-requires c =
    let d = (goal.at.number-requires c).After-last_to_raise-p in
    let a = c.args in
    let p = c.last_to_raise-p.result in
    let k : p < a.f = raised d in
    let long : length (drop p a.set.now) ≡ length a.set.now - p = length-drop p a.set.now in
    omega (arith, low d, length-take-le (a.f - p) (drop p a.set.now) (omega arith))

pub returns : goal.returns
returns c =
    let d = (goal.at.returns c).After-last_to_raise-p in
    let a = c.args in
    let p = c.last_to_raise-p.result in
    let k : p < a.f = raised d in
    let long : length (drop p a.set.now) ≡ length a.set.now - p = length-drop p a.set.now in
    let many : length (take (a.f - p) (drop p a.set.now)) ≡ a.f - p = length-take-le (a.f - p) (drop p a.set.now) (omega arith) in
    let e : next_set a.m (take a.f a.set.now) ≡ take p a.set.now ++ from (get_or a.set.now p 0 + 1) (a.f - p)
    = next_row a.m a.f a.set.now (omega arith) p k c.last_to_raise-p.ensures.1 in
    put_row a.set.now p a.f (get_or a.set.now p 0 + 1) (omega arith) (omega arith) (c.number.ensures ∙ ap (from _) many) e
