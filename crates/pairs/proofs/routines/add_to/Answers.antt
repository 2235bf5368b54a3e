-- A turn adds to the old sum of its length.
use Rattle.exact.proofs.Ground.{◌∙◌, ap₂, ◌<◌, arith, pos, ◌+ℤ◌, length, set}
use Rattle.exact.proofs.Bits.{of}
use Rattle.exact.proofs.Rooms.{write-next}
use Rattle.pairs.proofs.Adding.{both, sum-small, read-old, read-new, rest-stays}
use Rattle.pairs.proofs.routines.add_to.Goals as goal

pub add-requires : goal.add-requires
add-requires c =
    let row = c.args.total.now in let more = c.args.more.now in let j = c.loop-j.j in
    let R = c.requires.0 in let M = c.requires.1 in let h : j < length more = omega arith in
    rw (read-old row more R M j h c.loop-j.total c.loop-j.invariant, read-new row more R M j h) (sum-small row more R M j h)

pub loop-j-preserved : goal.loop-j-preserved
loop-j-preserved c =
    let row = c.args.total.now in let more = c.args.more.now in let j = c.loop-j.j in
    let R = c.requires.0 in let M = c.requires.1 in let h : j < length more = omega arith in
    ap₂ (λ out x. set out j x) c.loop-j.invariant
    (of c.add.result c.add.type_inv ∙ c.add.ensures
    ∙ ap₂ (λ a b. a +ℤ b) (read-old row more R M j h c.loop-j.total c.loop-j.invariant) (read-new row more R M j h))
    ∙ write-next (both row more) row j (pos 0) (omega (arith, R.long, M.short))

pub returns : goal.returns
returns c =
    c.loop-j.invariant ∙ rest-stays c.args.total.now c.args.more.now c.loop-j.j (omega arith) (omega (arith, c.requires.1.short)) c.requires.0.long
