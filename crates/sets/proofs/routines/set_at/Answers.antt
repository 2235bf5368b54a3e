-- A turn writes the column or passes the sets that have it.
use Rattle.exact.proofs.Ground.{◌<◌, ◌∷◌, [], arith, length, length-append}
use Rattle.sets.proofs.Walks.{choosing-start, choosing-end, choosing-keep, choosing-skip}
use Rattle.sets.proofs.routines.set_at.Goals.{then-left-having, else-left-having}
use Rattle.sets.proofs.routines.set_at.Goals as goal

pub loop-binomials-init : goal.loop-binomials-init
loop-binomials-init g c =
    let a = c.args in rw c.new-columns.ensures (choosing-start a.m a.j a.k c.requires.4)

pub loop-binomials-preserved : goal.loop-binomials-preserved
loop-binomials-preserved g c =
    let l = c.loop-binomials in
    let a = c.args in
    let h : length l.columns < a.j = omega arith in
    let b = c.looked_up-having.ensures in
    let n = c.len-in-loop-binomials.ensures in
    elim c.if-left-having.branch [
      | then-left-having w ↦ rw (w.columns-is, w.left-is, w.push.ensures, length-append l.columns (l.column ∷ []))
          (choosing-keep a.m a.j a.k l.column (length l.columns) l.left l.columns l.invariant h (rw (b, n) at w.if-left-having.true))
      | else-left-having w ↦ rw (w.columns-is, w.left-is, b, n)
          (choosing-skip a.m a.j a.k l.column (length l.columns) l.left l.columns l.invariant h (rw (b, n) at w.if-left-having.false))
    ]

pub returns : goal.returns
returns g c =
    let l = c.loop-binomials in
    let a = c.args in
    choosing-end a.m a.j a.k l.column (length l.columns) l.left l.columns c.requires.4 l.invariant (omega (arith, l.invariant.taken))
