-- What `marked_runs` hands to a routine over some runs; and that its answer is that of the held plan whose runs these are.
use Rattle.exact.proofs.Ground.{true, false, Bool, not, List, [], ◌∷◌, ◌≡◌, ◌∙◌, sym, ap, refl, ap₂, subst, ℕ, ◌≤◌, arith, eqb, T}
use Rattle.exact.proofs.Ground.{ℕ_discrete, length, length-map, length-replicate, ne_eqb, eq-eqb}
use Rattle.std.specs.Prelude.{Ok, Err}
use Rattle.exact.proofs.Tests.{clash}
use Rattle.rules.specs.Plan.{Plan, runs}
use Rattle.rules.specs.declared.Refusal.{Refusal}
use Rattle.rules.specs.Refusals.{Check, refusal, answered, or_else, plan_checks, of_held}
use Rattle.rules.proofs.Answered.{err-refused, err-again, ok-accepted, ok-is}
use Rattle.rules.proofs.Order.{in_turn}
use Rattle.rules.proofs.Ranges.{or-neither, or-refused, or-accepted}
use Rattle.plan.specs.Good.{Good, Sound}
use Rattle.plan.proofs.Checks.{passed-good, good-passed}
use Rattle.held.specs.declared.Held.{Held}
use Rattle.held.specs.Held.{IsHeld, held, held_of, standing, marks_in, plan_in, standing_in, of_standing}
use Rattle.held.proofs.Marks.{plan-in, marks-in}
use Rattle.held.proofs.Sizes.{sized}
use Rattle.marked.specs.Marked.{marks_of, marked_runs, miscounted, of_marked}
use Rattle.marked.proofs.Beginnings.{own, begins, begun-handed}

-- where nothing is refused the plan is good, there is a mark for each run, and one stands
module _ (p : Plan) (marks : List ℕ) (z : (refusal (of_marked p marks [])).number ≡ 0) where
  begun : ((refusal (plan_checks p)).number ≡ 0) × ((refusal (own (miscounted p marks) (marked_runs p marks) [])).number ≡ 0)
  begun =
      or-neither (refusal (plan_checks p)) (refusal (own (miscounted p marks) (marked_runs p marks) []))
      (ap (λ r. r.number) (sym (begins p (miscounted p marks) (marked_runs p marks) [] tt)) ∙ z)

  pub marked-good : Good p
  marked-good = passed-good p refl begun.0

  counted : miscounted p marks ≡ false
  counted = go (miscounted p marks) begun.1
    where
      go : (b : Bool) → (refusal (own b (marked_runs p marks) [])).number ≡ 0 → b ≡ false
      go false q = refl
      go true q = absurd (omega arith)

  pub marked-stand : 1 ≤ length (marked_runs p marks)
  marked-stand = go (marked_runs p marks) (rw counted at begun.1)
    where
      go : (rs : List ℕ) → (refusal (of_held rs [])).number ≡ 0 → 1 ≤ length rs
      go [] q = absurd (omega arith)
      go (f ∷ rs) q = omega arith

  pub marks-long : length (marks_of p marks) ≡ runs p
  marks-long = go (ℕ_discrete (length marks) 0) (ℕ_discrete (length marks) (runs p))
    where
      go : Dec (length marks ≡ 0) → Dec (length marks ≡ runs p) → length (marks_of p marks) ≡ runs p
      go (yes h) d = rw (eq-eqb (length marks) 0 h) (length-replicate (runs p) true)
      go (no n) (yes d) = rw (ne_eqb (length marks) 0 n) (length-map marks (λ b. not (eqb b 0)) ∙ d)
      go (no n) (no d) = clash (miscounted p marks) (rw (ne_eqb (length marks) 0 n, ne_eqb (length marks) (runs p) d)) counted

  -- the held plan with these marks
  pub marked-held : IsHeld (held_of p (marks_of p marks))
  marked-held = held p (marks_of p marks) marked-good marks-long marked-stand

  those-standing : standing_in (held_of p (marks_of p marks)) ≡ marked_runs p marks
  those-standing = ap standing (marks-in p (marks_of p marks) marks-long)

  pub marked-sound : Sound p (marked_runs p marks)
  marked-sound =
      subst (λ q. Sound q (marked_runs p marks)) (plan-in p marked-good (marks_of p marks) marks-long)
      (subst (Sound (plan_in (held_of p (marks_of p marks)))) those-standing (sized marked-held).sound)

-- ---- what a call over these runs may use of how it begins

module _ (p : Plan) (marks : List ℕ) where
  -- where it stops, so does the call, whatever its checks
  pub marked-stops : {e : Refusal} → Err e ≡ answered (refusal (of_marked p marks [])) (marked_runs p marks) →
      {B : Type 0} (checks : List Check) → T (in_turn (plan_checks p) checks) → (value : B) → Err e ≡ answered (refusal (of_marked p marks checks)) value
  marked-stops w checks t value =
      let r = refusal (of_marked p marks []) in
      let n = err-refused r (marked_runs p marks) w in
      let same : refusal (of_marked p marks checks) ≡ r = sym (begun-handed p marks checks t) ∙ or-refused r (refusal checks) n in
      rw same (err-again r (marked_runs p marks) w value)

  module _ {y : List ℕ} (w : Ok y ≡ answered (refusal (of_marked p marks [])) (marked_runs p marks)) where
    begins-well : (refusal (of_marked p marks [])).number ≡ 0
    begins-well = ok-accepted _ (marked_runs p marks) w

    -- where it goes on, the runs are those that stand, sound and one or more
    pub marked-are : y ≡ marked_runs p marks
    marked-are = ok-is _ (marked_runs p marks) w

    pub runs-sound : Sound p y
    runs-sound = rw marked-are (marked-sound p marks begins-well)

    pub runs-stand : 1 ≤ length y
    runs-stand = rw marked-are (marked-stand p marks begins-well)

    -- and the call is refused by its own checks alone
    pub marked-asks : (checks : List Check) → T (in_turn (plan_checks p) checks) → refusal (of_marked p marks checks) ≡ refusal checks
    marked-asks checks t = sym (begun-handed p marks checks t) ∙ or-accepted _ (refusal checks) begins-well

-- ---- the same as of a held plan: whatever calls were made, where they leave this plan with these runs standing

module _ (p : Plan) (marks : List ℕ) (h : Held) (stand : marks_in h ≡ marks_of p marks) where
  pub marked-same : standing_in h ≡ marked_runs p marks
  marked-same = ap standing stand

  pub marked-refuses : Good p → miscounted p marks ≡ false → (checks : List Check) → T (in_turn (plan_checks p) checks) →
      refusal (of_marked p marks checks) ≡ refusal (of_standing h checks)
  marked-refuses G c checks t =
      begins p (miscounted p marks) (marked_runs p marks) checks t
      ∙ ap₂ (λ r wrong. or_else r (refusal (own wrong (marked_runs p marks) checks))) (good-passed p G) c
      ∙ ap (λ rs. refusal (of_held rs checks)) (sym marked-same)
