use Rattle.exact.proofs.Ground.{◌≡◌, map, drop}
use Rattle.held.specs.Held.{IsHeld}
use Rattle.held.specs.History.{after}
use Rattle.asked_held.specs.Histories.{call_of}
use Rattle.asked_held.proofs.history.led.Given as goal

-- the calls from this one on are still to be made
abbrev pub invariant-loop-call : goal.invariant-loop-call
invariant-loop-call l =
    record {
      held : IsHeld l.left;
      before : after l.left (map call_of (drop l.call-index l.history)) ≡ after l.initial.left (map call_of l.history);
    }
