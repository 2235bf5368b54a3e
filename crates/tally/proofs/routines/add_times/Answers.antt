-- A turn makes a new sum of an old one.
use Rattle.exact.proofs.Ground.{map, ◌≡◌, ◌∙◌, ap, ap₂, arith, pos, ◌*ℤ◌, ◌+ℤ◌, set, w64, to_z, of_z}
use Rattle.exact.specs.Lists.{from}
use Rattle.exact.proofs.Bits.{of}
use Rattle.exact.proofs.Rooms.{write-next, all-written}
use Rattle.tally.specs.Tally.{added_times}
use Rattle.tally.proofs.Adding.{times-both, product-small, sum-small, read-old, read-each}
use Rattle.tally.proofs.routines.add_times.Goals as goal

pub mul-requires : goal.mul-requires
mul-requires c =
    let row = c.args.total.now in let more = c.args.more.now in let t = c.args.times in let j = c.loop-j.j in
    let R = c.requires.0 in let M = c.requires.1 in
    rw (of c.of_size-times.result c.of_size-times.type_inv, c.of_size-times.ensures, c.from.ensures, read-each t row more (omega arith) R M j (omega arith))
    (product-small t row more (omega arith) R M j (omega arith))

pub add-requires : goal.add-requires
add-requires c =
    let row = c.args.total.now in let more = c.args.more.now in let t = c.args.times in let j = c.loop-j.j in
    let R = c.requires.0 in let M = c.requires.1 in
    rw (
      read-old t row more (omega arith) R M j (omega arith) c.loop-j.total c.loop-j.invariant,
      of c.mul.result c.mul.type_inv,
      c.mul.ensures,
      of c.of_size-times.result c.of_size-times.type_inv,
      c.of_size-times.ensures,
      c.from.ensures,
      read-each t row more (omega arith) R M j (omega arith),
    )
    (sum-small t row more (omega arith) R M j (omega arith))

pub loop-j-preserved : goal.loop-j-preserved
loop-j-preserved c =
    let row = c.args.total.now in let more = c.args.more.now in let t = c.args.times in let j = c.loop-j.j in
    let R = c.requires.0 in let M = c.requires.1 in
    let times : to_z w64 (of_z w64 c.of_size-times.result) ≡ pos t
    = of c.of_size-times.result c.of_size-times.type_inv ∙ c.of_size-times.ensures ∙ ap pos c.from.ensures in
    ap₂ (λ out x. set out j x) c.loop-j.invariant
    (of c.add.result c.add.type_inv ∙ c.add.ensures
    ∙ ap₂ (λ a b. a +ℤ b) (read-old t row more (omega arith) R M j (omega arith) c.loop-j.total c.loop-j.invariant)
    (of c.mul.result c.mul.type_inv ∙ c.mul.ensures ∙ ap₂ (λ a b. a *ℤ b) times (read-each t row more (omega arith) R M j (omega arith))))
    ∙ write-next (times-both t row more) row j (pos 0) (omega (arith, R.long))

pub returns : goal.returns
unfolding added_times
returns c =
    let row = c.args.total.now in let f = times-both c.args.times row c.args.more.now in
    let e : c.loop-j.j ≡ 24 = omega arith in
    c.loop-j.invariant ∙ all-written f row c.loop-j.j (omega (arith, c.requires.0.long)) ∙ ap (λ n. map f (from 0 n)) e
