-- Runs struck one after the other.
use Rattle.exact.proofs.Ground.{true, false, Bool, cond, not, List, [], ◌∷◌, ◌≡◌, ◌∙◌, sym, ap, refl, ℕ, ◌<◌, ◌+◌}
use Rattle.exact.proofs.Ground.{add-one, length, get_or, drop, drop-cons, eqb}
use Rattle.std.specs.Prelude.{Result, Ok, Err, is_err}
use Rattle.rules.specs.declared.Refusal.{Refusal}
use Rattle.rules.specs.Refusals.{refusal, refuses, refusal_in}
use Rattle.rules.proofs.Answered.{err-refused, err-is}
use Rattle.held.specs.declared.Held.{Held}
use Rattle.held.specs.declared.Answered.{Answered}
use Rattle.held.specs.Held.{IsHeld, marks_in, strikes, call_checks, call_answer}
use Rattle.held.proofs.History.{call-held}
use Rattle.held.proofs.Opened.{open-held}
use Rattle.text.specs.Text.{plan_of}
use Rattle.standing_text.specs.StandingText.{strikes_answer, left_of}

-- what they leave is a held plan
pub strikes-held : {h : Held} → IsHeld h → (fs : List ℕ) → IsHeld (strikes_answer h fs).held
strikes-held H [] = H
strikes-held {h} H (f ∷ fs) =
    let a = call_answer h (strikes f) in
    let C = call-held H (strikes f) in
    either (refuses (refusal_in a.answer)) a (strikes_answer a.held fs) C (strikes-held {h = a.held} C fs)
  where
    either : (b : Bool) (a later : Answered Unit) → IsHeld a.held → IsHeld later.held → IsHeld (cond b a later).held
    either true a later A L = A
    either false a later A L = L

pub left-held : (text lost : List ℕ) → IsHeld (left_of text lost).held
unfolding left_of
left-held text lost = strikes-held (open-held (plan_of text)) lost

-- ---- one strike more, as a loop walks the lost runs

strike-refuses : (h : Held) (f : ℕ) → refuses (refusal_in (call_answer h (strikes f)).answer) ≡ is_err (call_answer h (strikes f)).answer
unfolding call_answer
strike-refuses h f = go (eqb r.number 0) refl
  where
    r : Refusal
    r = refusal (call_checks (marks_in h) (strikes f))

    go : (b : Bool) → eqb r.number 0 ≡ b →
        refuses (refusal_in (cond {A = Result Unit Refusal} (not b) (Err r) (Ok tt))) ≡ is_err (cond {A = Result Unit Refusal} (not b) (Err r) (Ok tt))
    go true e = refl
    go false e = ap not e

strike-number : (h : Held) (f : ℕ) {e : Refusal} → Err e ≡ (call_answer h (strikes f)).answer → ¬ (e.number ≡ 0)
unfolding call_answer
strike-number h f w = let r = refusal (call_checks (marks_in h) (strikes f)) in rw (err-is r tt w) (err-refused r tt w)

-- an error is a refusal
pub strikes-refuse : (h : Held) (fs : List ℕ) {e : Refusal} → Err e ≡ (strikes_answer h fs).answer → ¬ (e.number ≡ 0)
strikes-refuse h [] w = absurd (cc)
strikes-refuse h (f ∷ fs) {e} w = go (refuses (refusal_in a.answer)) w (λ v. strikes-refuse a.held fs v)
  where
    a : Answered Unit
    a = call_answer h (strikes f)

    go : (b : Bool) → Err e ≡ (cond b a (strikes_answer a.held fs)).answer → (Err e ≡ (strikes_answer a.held fs).answer → ¬ (e.number ≡ 0)) →
        ¬ (e.number ≡ 0)
    go true v later = strike-number h f v
    go false v later = later v

module _ (h : Held) (lost : List ℕ) (k : ℕ) (l : k < length lost) {a : Answered Unit} (e : a ≡ call_answer h (strikes (get_or lost k 0))) where
  next : strikes_answer h (drop k lost) ≡ cond (is_err a.answer) a (strikes_answer a.held (drop (k + 1) lost))
  next = rw (e, add-one, drop-cons lost k 0 l, strike-refuses h (get_or lost k 0))

  -- a refused strike is the answer
  pub strike-ends : is_err a.answer ≡ true → a ≡ strikes_answer h (drop k lost)
  strike-ends n = sym (next ∙ ap (λ b. cond b a (strikes_answer a.held (drop (k + 1) lost))) n)

  -- after an accepted one the others are struck from what it left
  pub strike-passes : is_err a.answer ≡ false → strikes_answer a.held (drop (k + 1) lost) ≡ strikes_answer h (drop k lost)
  strike-passes z = sym (next ∙ ap (λ b. cond b a (strikes_answer a.held (drop (k + 1) lost))) z)
