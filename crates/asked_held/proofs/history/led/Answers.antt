-- The calls from this one on are still to be made, and none after the last.
use Rattle.exact.proofs.Ground.{map, ◌∙◌, sym, ap, refl, drop_of_length-le, get_or}
use Rattle.rules.specs.Plan.{plan}
use Rattle.held.specs.declared.Answered.{Answered}
use Rattle.held.specs.History.{after}
use Rattle.held.proofs.Opened.{open-held}
use Rattle.held.proofs.History.{call-held}
use Rattle.asked_held.specs.Histories.{call_of, led}
use Rattle.asked_held.proofs.Steps.{next-call}
use Rattle.asked_held.proofs.history.led.Goals as goal

pub loop-call-init : goal.loop-call-init
loop-call-init c = record { held = rw c.open.ensures (open-held (plan c.args.levels.now c.args.table.now)); before = refl }

pub called-requires : goal.called-requires
called-requires c = c.loop-call.invariant.held

pub loop-call-preserved : goal.loop-call-preserved
loop-call-preserved c =
    let l = c.loop-call in
    let history = c.args.history.now in
    record {
      held = rw c.called.ensures (call-held l.invariant.held (call_of (get_or history l.call-index 0)));
      before = rw c.called.ensures (sym (next-call l.left history l.call-index c.loop-call-test.true) ∙ l.invariant.before);
    }

pub returns : goal.returns
unfolding led
returns c =
    let l = c.loop-call in
    let history = c.args.history.now in
    ap (λ cs. after l.left (map call_of cs)) (sym (drop_of_length-le history {i = l.call-index} c.loop-call-test.false)) ∙ l.invariant.before
    ∙ ap (λ (a : Answered (Unit {0})). after a.held (map call_of history)) c.open.ensures
