-- The advice is taken of the runs that are left.
use Rattle.exact.proofs.Ground.{◌≤◌, ◌+◌, ◌∙◌, ap, arith, length, length-append, ◌≡◌, ◌∷◌, []}
use Rattle.advice.proofs.Turns.{turned-first, turned-next, turned-all}
use Rattle.advice.proofs.routines.in_turn.Goals as goal

pub copied-left-requires : goal.copied-left-requires
copied-left-requires c = c.requires.0.sound.few

pub loop-left-init : goal.loop-left-init
loop-left-init c =
    let e = ap length c.new-lost.ensures in
    (omega (arith, e), turned-first c.requires.0 c.new-lost.ensures c.copied-left.ensures)

pub advice-f-requires : goal.advice-f-requires
advice-f-requires c = let P = c.loop-left.invariant.1 in rw c.as_slice.ensures (P.stand, omega (arith, P.many))

pub push-requires : goal.push-requires
push-requires c = (omega arith, omega arith)

pub without-left-requires : goal.without-left-requires
without-left-requires c = rw c.as_slice-in-loop-left.ensures c.loop-left.invariant.1.stand.sound.few

pub loop-left-preserved : goal.loop-left-preserved
loop-left-preserved c =
    let P = c.loop-left.invariant.1 in
    let one : length c.push.new.self ≡ length c.loop-left.lost + 1 = ap length c.push.ensures ∙ length-append c.loop-left.lost (c.advice-f.result ∷ []) in
    let two : 2 ≤ length c.loop-left.left = omega (arith, P.many) in (
      omega arith,
      turned-next P two (rw c.as_slice.ensures at c.advice-f.ensures) c.push.ensures (rw c.as_slice-in-loop-left.ensures at c.without-left.ensures),
    )

pub loop-left-smaller : goal.loop-left-smaller
loop-left-smaller c =
    let one : length c.push.new.self ≡ length c.loop-left.lost + 1 = ap length c.push.ensures ∙ length-append c.loop-left.lost (c.advice-f.result ∷ []) in
    omega arith

pub returns : goal.returns
returns c = turned-all c.loop-left.invariant.1 (omega arith)
