-- How a call with marks begins, by what is wrong with them.
use Rattle.exact.proofs.Ground.{true, false, Bool, cond, not, List, [], ◌∷◌, map, ◌≡◌, ◌∙◌, sym, ap, refl, ℕ, suc, arith, eqb, T, length}
use Rattle.exact.proofs.Ground.{ne_eqb, eq-eqb}
use Rattle.std.specs.Prelude.{Ok, Err}
use Rattle.exact.proofs.Numbers.{length_from}
use Rattle.rules.specs.declared.Refusal.{Refusal}
use Rattle.rules.specs.Plan.{Plan, runs, every_run}
use Rattle.rules.specs.Refusals.{Check, check, refusal, answered, or_else, plain, plan_checks, of_plan, of_held, too_few}
use Rattle.rules.proofs.Order.{in_turn}
use Rattle.rules.proofs.Ranges.{or_assoc}
use Rattle.rules.proofs.Answered.{err-first, ok-first, ok-accepted}
use Rattle.plan.specs.Good.{Good}
use Rattle.plan.proofs.Checks.{passed-good, plan-handed}
use Rattle.held.specs.Held.{standing}
use Rattle.held.proofs.Standing.{all-stand}
use Rattle.held.proofs.Lent.{none-stands}
use Rattle.marked.specs.Marked.{marked_runs, miscounted, of_marked}

-- ---- the checks, in turn

-- what is checked of the marks and by the call, behind the plan's own checks
abbrev pub own : Bool → List ℕ → List Check → List Check
own wrong rs checks = cond wrong (check 8 true ∷ []) (of_held rs checks)

pub begins : (p : Plan) (wrong : Bool) (rs : List ℕ) (checks : List Check) → T (in_turn (plan_checks p) checks) →
    refusal (of_plan p (own wrong rs checks)) ≡ or_else (refusal (plan_checks p)) (refusal (own wrong rs checks))
begins p true rs checks t = sym (plan-handed p (check 8 true ∷ []) tt refl)
begins p false [] checks t = sym (plan-handed p (too_few 1 0 ∷ []) tt refl)
begins p false (f ∷ rs) checks t = rw (ne_eqb (suc (length rs)) 0 (λ q. omega arith)) (sym (plan-handed p checks t refl))

own-handed : (wrong : Bool) (rs : List ℕ) (checks : List Check) → or_else (refusal (own wrong rs [])) (refusal checks) ≡ refusal (own wrong rs checks)
own-handed true rs checks = refl
own-handed false [] checks = refl
own-handed false (f ∷ rs) checks = rw (ne_eqb (suc (length rs)) 0 (λ q. omega arith))

-- the refusal that a call begins with, and then that of its own checks
pub begun-handed : (p : Plan) (marks : List ℕ) (checks : List Check) → T (in_turn (plan_checks p) checks) →
    or_else (refusal (of_marked p marks [])) (refusal checks) ≡ refusal (of_marked p marks checks)
begun-handed p marks checks t =
    let wrong = miscounted p marks in
    let rs = marked_runs p marks in
    let r = refusal (plan_checks p) in
    ap (λ r. or_else r (refusal checks)) (begins p wrong rs [] tt)
    ∙ or_assoc r (refusal (own wrong rs [])) (refusal checks)
    ∙ ap (or_else r) (own-handed wrong rs checks)
    ∙ sym (begins p wrong rs checks t)

own-turn : (p : Plan) (wrong : Bool) (rs : List ℕ) → T (in_turn (plan_checks p) (own wrong rs []))
own-turn p true rs = tt
own-turn p false [] = tt
own-turn p false (f ∷ rs) = rw (ne_eqb (suc (length rs)) 0 (λ q. omega arith)) tt

-- ---- the plan's checks, as they went

module _ (p : Plan) (marks : List ℕ) where
  -- the runs that are asked for
  abbrev asked : List ℕ
  asked = marked_runs p marks

  pub plan-stops : {e : Refusal} → Err e ≡ answered (refusal (plan_checks p)) (every_run p) → Err e ≡ answered (refusal (of_marked p marks [])) asked
  plan-stops w = err-first (plan_checks p) (own (miscounted p marks) asked []) (own-turn p (miscounted p marks) asked) (every_run p) asked w

  module _ {y : List ℕ} (w : Ok y ≡ answered (refusal (plan_checks p)) (every_run p)) where
    pub plan-good : Good p
    plan-good = passed-good p refl (ok-accepted (refusal (plan_checks p)) (every_run p) w)

    -- only the marks are looked at
    passes : answered (refusal (of_marked p marks [])) asked ≡ answered (refusal (own (miscounted p marks) asked [])) asked
    passes = ok-first (plan_checks p) (own (miscounted p marks) asked []) (own-turn p (miscounted p marks) asked) (every_run p) asked w

    pub marked_all : length marks ≡ 0 → Ok (every_run p) ≡ answered (refusal (of_marked p marks [])) asked
    marked_all h =
        let every : asked ≡ every_run p = rw (eq-eqb (length marks) 0 h) (all-stand (runs p)) in
        let some : ¬ (length (every_run p) ≡ 0) = λ q. omega (arith, length_from 0 (runs p), plan-good.runs-low) in
        sym (passes ∙ rw (every, eq-eqb (length marks) 0 h, ne_eqb (length (every_run p)) 0 some))

    module _ (n : ¬ (length marks ≡ 0)) where
      pub marked-eight : ¬ (length marks ≡ runs p) → Err (plain 8) ≡ answered (refusal (of_marked p marks [])) asked
      marked-eight d = sym (passes ∙ rw (ne_eqb (length marks) 0 n, ne_eqb (length marks) (runs p) d))

      -- one for each run: those stand whose mark is not 0
      abbrev stood : List ℕ
      stood = standing (map (λ b. not (eqb b 0)) marks)

      pub marked-some : length marks ≡ runs p → answered (refusal (of_marked p marks [])) asked ≡ answered (refusal (too_few 1 (length stood) ∷ [])) stood
      marked-some d =
          passes ∙ rw (ne_eqb (length marks) 0 n, eq-eqb (length marks) (runs p) d) (ap (λ r. answered r stood) (sym (none-stands stood)))
