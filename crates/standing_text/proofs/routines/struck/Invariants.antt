-- The runs behind the present one are still to be struck.
use Rattle.std.specs.Prelude.{◌≡◌, drop}
use Rattle.held.specs.Held.{IsHeld}
use Rattle.standing_text.specs.StandingText.{strikes_answer}
use Rattle.standing_text.proofs.routines.struck.Given as goal

abbrev pub invariant-loop-run : goal.invariant-loop-run
invariant-loop-run l = IsHeld l.left × (strikes_answer l.left (drop l.run-index l.lost) ≡ strikes_answer l.initial.left l.lost)
