-- A run is taken down where its mark is set.
use Rattle.exact.proofs.Ground.{ap, ◌<◌, arith, length}
use Rattle.held.specs.Held.{marks_in, standing}
use Rattle.held.proofs.Sizes.{sized}
use Rattle.held.proofs.Walk.{walk-room, walk-stands, walk-struck}
use Rattle.held.proofs.routines.standing_numbers.Goals.{then-stands, else-stands}
use Rattle.held.proofs.routines.standing_numbers.Goals as goal

pub shared_ref_as_front-stands-items : goal.shared_ref_as_front-stands-items
shared_ref_as_front-stands-items c = (sized c.requires).runs-high

pub loop-f-init : goal.loop-f-init
unfolding standing
loop-f-init c = c.new-standing.ensures

pub push-requires : goal.push-requires
push-requires c =
    let marks = marks_in c.args.held.now in
    let h : c.loop-f.f < length marks = omega arith in
    let e = ap length c.loop-f.invariant in
    (omega arith, omega (arith, e, walk-room marks c.loop-f.f h, (sized c.requires).runs-high, (sized c.requires).marks-held))

pub loop-f-preserved : goal.loop-f-preserved
loop-f-preserved c =
    let marks = marks_in c.args.held.now in
    let f = c.loop-f.f in
    let h : f < length marks = omega arith in
    elim c.if-stands.branch [
      | then-stands w ↦ rw (w.standing-is, w.push.ensures, c.loop-f.invariant) (walk-stands marks f h w.if-stands.true)
      | else-stands w ↦ rw (w.standing-is, c.loop-f.invariant) (walk-struck marks f h w.if-stands.false)
    ]
