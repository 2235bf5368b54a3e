-- What the exports hand over fits: a refusal's number is at most 16, and thousandths are few.
use Rattle.exact.proofs.Ground.{true, false, Bool, cond, List, [], ◌∷◌, mem-append_left, ◌≡◌, ◌∙◌, ap, refl, ℕ, ◌≤◌, ◌<◌, suc, zero, ◌^◌, arith}
use Rattle.std.specs.Prelude.{Ok, Err}
use Rattle.std.specs.Result.{result_and}
use Rattle.exact.proofs.Numbers.{length_from}
use Rattle.rules.specs.declared.Refusal.{Refusal}
use Rattle.rules.specs.Plan.{Plan, columns, level, entry, every_run, every_column}
use Rattle.rules.specs.Refusals.{Check, refusal, refuses, answered, refusal_in, largest_number, plan_checks, of_plan, bad_length}
use Rattle.rules.proofs.Answered.{err-is, ok-accepted, ok-is}
use Rattle.rules.proofs.Order.{number-most, passed_none, none_passed}
use Rattle.plan.proofs.Checks.{passed-good}
use Rattle.words.specs.Answers.{word_answer}
use Rattle.resolution.specs.declared.GeneralizedResolution.{GeneralizedResolution}
use Rattle.resolution.specs.Resolution.{resolution_checks, generalized_answer}
use Rattle.resolution.proofs.Resolved.{resolution-is}
use Rattle.held.specs.declared.Held.{Held}
use Rattle.held.specs.declared.Answered.{Answered}
use Rattle.held.specs.Held.{IsHeld, plan_in, open_answer, strikes, reinstates, of_standing}
use Rattle.held.specs.History.{is_accepted}
use Rattle.held.proofs.History.{call-held, undo}
use Rattle.held_questions.specs.Answers.{held_word}
use Rattle.bench.specs.Exports.{round, rounds}

-- the refusal in an answer is one of the table
module _ {A : Type 0} (value : A) (checks : List Check) where
  pub answer-number : (refusal_in (answered (refusal checks) value)).number ≤ largest_number
  answer-number = go (refuses (refusal checks))
    where
      go : (b : Bool) → (refusal_in (cond b (Err (refusal checks)) (Ok value))).number ≤ largest_number
      go true = number-most checks
      go false = omega arith

  pub err-number : {e : Refusal} → Err e ≡ answered (refusal checks) value → e.number ≤ largest_number
  err-number w = rw (err-is (refusal checks) value w) (number-most checks)

-- ---- strikes

-- where run 0 can be struck a round gives the plan back, so that the number of rounds is not seen in the answer
pub rounds-undone : {h : Held} → IsHeld h → is_accepted h (strikes 0) ≡ true → (k : ℕ) → rounds h k ≡ h
rounds-undone H a zero = refl
rounds-undone H a (suc k) = ap round (rounds-undone H a k) ∙ ap (λ (x : Answered (Unit {0})). x.held) (undo H (strikes 0) a)

pub rounds-held : {h : Held} → IsHeld h → (k : ℕ) → IsHeld (rounds h k)
rounds-held H zero = H
rounds-held H (suc k) = call-held (call-held (rounds-held H k) (strikes 0)) (reinstates 0)

-- the word, behind the refusal of the opening
pub strikes-number : (p : Plan) (h : Held) (j : ℕ) → (refusal_in (result_and (open_answer p).answer (held_word h j).answer)).number ≤ largest_number
unfolding open_answer held_word word_answer
strikes-number p h j = go (refuses (refusal (plan_checks p)))
  where
    go : (b : Bool) →
        (refusal_in (result_and (cond b (Err (refusal (plan_checks p))) (Ok (tt {0}))) (held_word h j).answer)).number ≤ largest_number
    go true = number-most (plan_checks p)
    go false = answer-number _ (of_standing h (bad_length (columns (plan_in h)) j ∷ []))

-- ---- generalized resolution

module _ (p : Plan) where
  own : List Check
  own = resolution_checks p (every_run p)

  plan-accepted : (refusal (of_plan p own)).number ≡ 0 → (refusal (plan_checks p)).number ≡ 0
  unfolding own
  plan-accepted z =
      ap (λ r. r.number) (none_passed (plan_checks p) tt (λ c m. passed_none (of_plan p own) tt refl z c (mem-append_left own m)))

  pub thousandths-small : {x : GeneralizedResolution} → Ok x ≡ generalized_answer p (every_run p) (of_plan p) → x.thousandths < 2 ^ 63
  unfolding generalized_answer own
  thousandths-small w =
      let good = passed-good p refl (plan-accepted (ok-accepted (refusal (of_plan p own)) _ w)) in
      rw (ok-is (refusal (of_plan p own)) _ w)
      (omega (
        arith,
        good.columns-high,
        length_from 0 (columns p),
        (resolution-is (level p) (entry p) (every_run p) (every_column p)).high,
      ))
