-- What a question to a held plan hands to the routines below.
use Rattle.exact.proofs.Ground.{[], ◌≡◌, sym, refl}
use Rattle.std.specs.Prelude.{Result}
use Rattle.rules.specs.declared.Refusal.{Refusal}
use Rattle.rules.specs.Refusals.{refusal}
use Rattle.compare.specs.declared.routines.Side.{Side}
use Rattle.compare.proofs.Sides.{Standing}
use Rattle.advice.specs.Given.{Standing as Runs}
use Rattle.held.specs.declared.Held.{Held}
use Rattle.held.specs.Held.{IsHeld, marks_in, plan_in, standing_in, of_standing}
use Rattle.held.proofs.History.{words-standing}
use Rattle.held.proofs.Sizes.{sized}
use Rattle.held.proofs.Lent.{columns-in, some-stand}
use Rattle.held_questions.specs.Given.{held_side}
use Rattle.held_questions.proofs.Rises.{rises}

-- the standing runs, in number order too
pub held-stand : {h : Held} → IsHeld h → Runs (plan_in h) (standing_in h)
held-stand {h} H = record { sound = (sized H).sound; rising = rises (marks_in h) }

-- one side of a comparison
pub held-standing : {h : Held} → IsHeld h → {a : Result Side Refusal} → a ≡ held_side h →
    Standing (plan_in h) (standing_in h) (refusal (of_standing h [])) a
unfolding held_side
held-standing {h} H e = record {
  side = _;
  is = e;
  stands = λ z. record {
    sound = (sized H).sound;
    some = some-stand h z;
    columns-are = sym (columns-in H);
    runs-are = refl;
    words_are = words-standing H;
  };
}
