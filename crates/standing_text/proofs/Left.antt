-- Where no strike is refused, the runs left are those of the plan that were not named as lost.
use Rattle.exact.proofs.Ground.{true, false, Bool, cond, not, ◌&&◌, ◌||◌, List, [], ◌∷◌, ◌≡◌, ◌∙◌, sym, ap, refl, fun_ext, ℕ, ◌+◌, suc, zero}
use Rattle.exact.proofs.Ground.{zero-add, add-zero, arith, eqb, set, ne_eqb, eq-eqb, eqb-true, not-false}
use native.Mathlib.Nat.{suc-add, add-suc}
use Rattle.exact.specs.Lists.{keep, holds}
use Rattle.exact.proofs.Tests.{not-true, clash}
use Rattle.exact.proofs.Lists.{keep_all, keep-keep}
use Rattle.rules.specs.Refusals.{refuses, refusal_in}
use Rattle.rules.proofs.Ranges.{unless-accepted}
use Rattle.advice.specs.Advice.{without}
use Rattle.advice.proofs.Without.{without-none}
use Rattle.held.specs.declared.Held.{Held}
use Rattle.held.specs.declared.Answered.{Answered}
use Rattle.held.specs.Held.{standing_from, standing, IsHeld, marks_in, plan_in, standing_in, strikes, call_answer}
use Rattle.held.proofs.Marks.{refuses-in, refusal_of}
use Rattle.held.proofs.Standing.{marked_from}
use Rattle.held.proofs.History.{call-held, marks-after, call-plan}
use Rattle.standing_text.specs.StandingText.{strikes_answer}

-- ---- one strike

struck-from : (a : ℕ) (marks : List Bool) (k : ℕ) → standing_from a (set marks k false) ≡ without (a + k) (standing_from a marks)
struck-from a [] k = refl
struck-from a (true ∷ marks) zero =
    rw (eq-eqb a (a + 0) (sym (add-zero a)))
    (sym (without-none (a + 0) (standing_from (suc a) marks) (λ g m e. let (k, q, d) = marked_from (suc a) marks g m in omega arith)))
struck-from a (false ∷ marks) zero =
    sym (without-none (a + 0) (standing_from (suc a) marks) (λ g m e. let (k, q, d) = marked_from (suc a) marks g m in omega arith))
struck-from a (true ∷ marks) (suc k) =
    rw (ne_eqb a (a + suc k) (λ e. omega arith))
    (ap (λ l. a ∷ l) (struck-from (suc a) marks k ∙ ap (λ j. without j (standing_from (suc a) marks)) (suc-add a k ∙ sym (add-suc a k))))
struck-from a (false ∷ marks) (suc k) =
    struck-from (suc a) marks k ∙ ap (λ j. without j (standing_from (suc a) marks)) (suc-add a k ∙ sym (add-suc a k))

struck-standing : (marks : List Bool) (f : ℕ) → standing (set marks f false) ≡ without f (standing marks)
unfolding standing
struck-standing marks f = struck-from 0 marks f ∙ ap (λ j. without j (standing_from 0 marks)) (zero-add f)

strike-left : {h : Held} → IsHeld h → (f : ℕ) → (refusal_in (call_answer h (strikes f)).answer).number ≡ 0 →
    standing_in (call_answer h (strikes f)).held ≡ without f (standing_in h)
unfolding call_answer
strike-left {h} H f z =
    let r = refusal_of (marks_in h) (strikes f) in
    let y : r.number ≡ 0 = eqb-true r.number 0 (not-false (eqb r.number 0) (sym (refuses-in r tt) ∙ ap not (eq-eqb _ 0 z))) in
    ap standing (marks-after H (strikes f) ∙ unless-accepted r (marks_in h) (set (marks_in h) f false) y)
    ∙ struck-standing (marks_in h) f

-- ---- all of them

neither-is : (a b : Bool) → (not a && not b) ≡ not (a || b)
neither-is true b = refl
neither-is false b = refl

pub left-are : {h : Held} → IsHeld h → (lost : List ℕ) → (refusal_in (strikes_answer h lost).answer).number ≡ 0 →
    standing_in (strikes_answer h lost).held ≡ keep (λ f. not (holds f lost)) (standing_in h)
left-are {h} H [] z = sym (keep_all (standing_in h))
left-are {h} H (f ∷ fs) z = go (refuses (refusal_in a.answer)) refl (left-are {h = a.held} (call-held H (strikes f)) fs) z
  where
    a : Answered Unit
    a = call_answer h (strikes f)

    later : Answered Unit
    later = strikes_answer a.held fs

    go : (b : Bool) → refuses (refusal_in a.answer) ≡ b →
        ((refusal_in later.answer).number ≡ 0 → standing_in later.held ≡ keep (λ g. not (holds g fs)) (standing_in a.held)) →
        (refusal_in (cond b a later).answer).number ≡ 0 → standing_in (cond b a later).held ≡ keep (λ g. not (holds g (f ∷ fs))) (standing_in h)
    go true e ih y = clash (refuses (refusal_in a.answer)) e (ap not (eq-eqb (refusal_in a.answer).number 0 y))
    go false e ih y =
        let n : (refusal_in a.answer).number ≡ 0 = eqb-true (refusal_in a.answer).number 0 (not-true (eqb (refusal_in a.answer).number 0) e) in
        ih y ∙ ap (keep (λ g. not (holds g fs))) (strike-left H f n)
        ∙ keep-keep (λ g. not (holds g fs)) (λ g. not (eqb g f)) (standing_in h)
        ∙ ap (λ test. keep test (standing_in h)) (fun_ext (λ g. neither-is (eqb g f) (holds g fs)))

-- levels and entries stay
pub left-plan : {h : Held} → IsHeld h → (lost : List ℕ) → plan_in (strikes_answer h lost).held ≡ plan_in h
left-plan H [] = refl
left-plan {h} H (f ∷ fs) = go (refuses (refusal_in a.answer)) (left-plan {h = a.held} (call-held H (strikes f)) fs)
  where
    a : Answered Unit
    a = call_answer h (strikes f)

    go : (b : Bool) → plan_in (strikes_answer a.held fs).held ≡ plan_in a.held → plan_in (cond b a (strikes_answer a.held fs)).held ≡ plan_in h
    go true e = call-plan H (strikes f)
    go false e = e ∙ call-plan H (strikes f)
