-- How a call on a plan ends that begins with the plan's checks: its own checks have numbers that stand later in the order.
use Rattle.exact.proofs.Ground.{List, ◌≡◌, refl, T}
use Rattle.std.specs.Prelude.{Ok, Err}
use Rattle.rules.specs.declared.Refusal.{Refusal}
use Rattle.rules.specs.Plan.{Plan}
use Rattle.rules.specs.Refusals.{Check, refusal, answered, of_plan, plan_checks}
use Rattle.rules.proofs.Answered.{err-first, ok-first, ok-accepted}
use Rattle.rules.proofs.Order.{in_turn}
use Rattle.plan.specs.Good.{Good}
use Rattle.plan.proofs.Checks.{passed-good}

-- where the checks of the plan pass it is good; x stands beside them
module _ {A : Type 0} (p : Plan) (x : A) where
  pub begun-good : {y : A} → Ok y ≡ answered (refusal (plan_checks p)) x → Good p
  begun-good w = passed-good p refl (ok-accepted (refusal (plan_checks p)) x w)

module _ {A B : Type 0} (p : Plan) (checks : List Check) (turn : T (in_turn (plan_checks p) checks)) (x : A) (value : B) where
  -- a call that is left there
  pub plan-err : {e : Refusal} → Err e ≡ answered (refusal (plan_checks p)) x → Err e ≡ answered (refusal (of_plan p checks)) value
  plan-err = err-first (plan_checks p) checks turn x value

  -- a call that goes on
  pub plan-ok : {y : A} → Ok y ≡ answered (refusal (plan_checks p)) x → answered (refusal (of_plan p checks)) value ≡ answered (refusal checks) value
  plan-ok = ok-first (plan_checks p) checks turn x value
