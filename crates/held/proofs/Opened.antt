-- What an opening gives is a held plan, with all its runs standing.
use Rattle.exact.proofs.Ground.{true, false, Bool, cond, List, ◌≡◌, ◌∙◌, sym, ap, refl, replicate, length-replicate, eqb-true, not-false}
use Rattle.std.specs.Prelude.{Result, is_ok}
use Rattle.exact.proofs.Numbers.{length_from}
use Rattle.rules.specs.Plan.{Plan, runs}
use Rattle.rules.specs.Refusals.{refusal, refuses, answered, plan_checks}
use Rattle.rules.specs.declared.Refusal.{Refusal}
use Rattle.plan.specs.Good.{Good}
use Rattle.plan.proofs.Checks.{passed-good}
use Rattle.held.specs.Held.{held_of, empty_held, IsHeld, none-held, held, open_answer}
use Rattle.held.proofs.Standing.{all-stand}
use Rattle.held.proofs.Marks.{accepted-ok, refused-ok}

pub open-held : (p : Plan) → IsHeld (open_answer p).held
unfolding open_answer
open-held p = go (refuses (refusal (plan_checks p))) refl
  where
    marks : List Bool
    marks = replicate (runs p) true

    go : (b : Bool) → refuses (refusal (plan_checks p)) ≡ b → IsHeld (cond b empty_held (held_of p marks))
    go true e = none-held
    go false e =
        let G = passed-good p refl (eqb-true (refusal (plan_checks p)).number 0 (not-false _ e)) in
        held p marks G (length-replicate (runs p) true)
        (rw (all-stand (runs p), length_from 0 (runs p)) G.runs-low)

-- ---- what the code's branches are of the definition

module _ (p : Plan) {a : Result Unit Refusal} (e : a ≡ answered (refusal (plan_checks p)) tt) where
  pub open-good : is_ok a ≡ true → Good p
  open-good o =
      let z = accepted-ok (refusal (plan_checks p)) tt (ap is_ok (sym e) ∙ o) in
      passed-good p refl (eqb-true (refusal (plan_checks p)).number 0 (not-false _ z))

  pub open-accepted : is_ok a ≡ true → record { held = held_of p (replicate (runs p) true); answer = a } ≡ open_answer p
  unfolding open_answer
  open-accepted o = rw (e, accepted-ok (refusal (plan_checks p)) tt (ap is_ok (sym e) ∙ o))

  pub open-refused : is_ok a ≡ false → record { held = empty_held; answer = a } ≡ open_answer p
  unfolding open_answer
  open-refused o = rw (e, refused-ok (refusal (plan_checks p)) tt (ap is_ok (sym e) ∙ o))
