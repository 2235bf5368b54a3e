-- A turn makes a new sum of an old one.
use Rattle.exact.proofs.Ground.{map, ◌≡◌, ◌∙◌, ap, ap₂, arith, pos, ◌*ℤ◌, ◌+ℤ◌, set, get_or, w64, to_z, of_z}
use Rattle.exact.specs.Lists.{from}
use Rattle.exact.proofs.Bits.{of}
use Rattle.exact.proofs.Rooms.{write-next, all-written}
use Rattle.words.specs.Given.{both_orders}
use Rattle.words.proofs.BothOrders.{both, in-turn, product-small, half-small, both-small, read-old, read-each}
use Rattle.words.proofs.routines.both_orders.Goals as goal

pub mul-requires : goal.mul-requires
mul-requires c =
    let row = c.args.total.now in let own = c.args.own.now in let n = c.args.runs in let j = c.loop-j.j in
    let R = c.requires.0 in let O = c.requires.1.0 in let few = c.requires.1.1 in
    rw (of c.of_size-n.result c.of_size-n.type_inv, c.of_size-n.ensures, read-each n own row few O R j (omega arith))
    (product-small n own row few O R j (omega arith))

pub add-half-requires : goal.add-half-requires
add-half-requires c =
    let row = c.args.total.now in let own = c.args.own.now in let n = c.args.runs in let j = c.loop-j.j in
    let R = c.requires.0 in let O = c.requires.1.0 in let few = c.requires.1.1 in
    rw (
      read-old n own row few O R j (omega arith) c.loop-j.total c.loop-j.invariant,
      of c.mul.result c.mul.type_inv,
      c.mul.ensures,
      of c.of_size-n.result c.of_size-n.type_inv,
      c.of_size-n.ensures,
      read-each n own row few O R j (omega arith),
    )
    (half-small n own row few O R j (omega arith))

pub add-requires : goal.add-requires
add-requires c =
    let row = c.args.total.now in let own = c.args.own.now in let n = c.args.runs in let j = c.loop-j.j in
    let R = c.requires.0 in let O = c.requires.1.0 in let few = c.requires.1.1 in
    let old = read-old n own row few O R j (omega arith) c.loop-j.total c.loop-j.invariant in
    rw (
      of c.add-half.result c.add-half.type_inv,
      c.add-half.ensures,
      old,
      of c.mul.result c.mul.type_inv,
      c.mul.ensures,
      of c.of_size-n.result c.of_size-n.type_inv,
      c.of_size-n.ensures,
      read-each n own row few O R j (omega arith),
    )
    (both-small n own row few O R j (omega arith))

pub loop-j-preserved : goal.loop-j-preserved
loop-j-preserved c =
    let row = c.args.total.now in let own = c.args.own.now in let n = c.args.runs in let j = c.loop-j.j in
    let R = c.requires.0 in let O = c.requires.1.0 in let few = c.requires.1.1 in
    let old = read-old n own row few O R j (omega arith) c.loop-j.total c.loop-j.invariant in
    let times : to_z w64 (of_z w64 c.of_size-n.result) ≡ pos n = of c.of_size-n.result c.of_size-n.type_inv ∙ c.of_size-n.ensures in
    let product = of c.mul.result c.mul.type_inv ∙ c.mul.ensures ∙ ap₂ (λ a b. a *ℤ b) times (read-each n own row few O R j (omega arith)) in
    let half = of c.add-half.result c.add-half.type_inv ∙ c.add-half.ensures ∙ ap₂ (λ a b. a +ℤ b) old product in
    ap₂ (λ out x. set out j x) c.loop-j.invariant
    (of c.add.result c.add.type_inv ∙ c.add.ensures ∙ ap₂ (λ a b. a +ℤ b) half old ∙ in-turn (get_or row j (pos 0)) (pos n *ℤ get_or own j (pos 0)))
    ∙ write-next (both n own row) row j (pos 0) (omega (arith, R.long))

pub returns : goal.returns
unfolding both_orders
returns c =
    let row = c.args.total.now in let f = both c.args.runs c.args.own.now row in
    let e : c.loop-j.j ≡ 24 = omega arith in
    c.loop-j.invariant ∙ all-written f row c.loop-j.j (omega (arith, c.requires.0.long)) ∙ ap (λ n. map f (from 0 n)) e
