-- What the planner gets: the word, which is never negative, or the refusal number negated, which is below zero. So the two never meet.
use Rattle.exact.proofs.Ground.{[], ◌∷◌, List, ◌≡◌, ◌∙◌, sym, ap, refl, subst⁻¹, ℕ, ◌≤◌, ℕ_discrete, suc, zero, T, pos, ℤ, neg_ℤ, ◌≤ℤ◌, lt_z}
use Rattle.std.specs.Prelude.{Result, Ok, Err}
use Rattle.rules.specs.declared.Refusal.{Refusal}
use Rattle.rules.specs.Plan.{Plan, columns, level, entry, every_run, every_column}
use Rattle.rules.specs.Refusals.{Check, refusal, refusal_in, answered, number_or, plan_checks, of_plan, bad_length}
use Rattle.rules.proofs.Answered.{answered-ok, answered-err}
use Rattle.plan.proofs.Checks.{passed-good, plan-refused}
use Rattle.plan.proofs.Sound.{good-sound}
use Rattle.words.specs.Words.{word}
use Rattle.words.specs.Answers.{word_answer, planner_word}
use Rattle.words.proofs.OfPlan.{word-not-negative}

-- the refusal in an answer, negated
refused-number : (a : Result ℤ Refusal) → ¬ ((refusal_in a).number ≡ 0) → number_or a ≡ neg_ℤ (pos (refusal_in a).number)
refused-number (Ok w) n = absurd (n refl)
refused-number (Err r) n = refl

module _ (p : Plan) (j : ℕ) (a : Result ℤ Refusal) (e : a ≡ word_answer p (every_run p) (of_plan p) j) where
  pub planner-refused : ¬ ((refusal_in a).number ≡ 0) → planner_word p j ≡ neg_ℤ (pos (refusal_in a).number)
  unfolding planner_word
  planner-refused n = ap number_or (sym e) ∙ refused-number a n

  pub planner-word : {w : ℤ} → a ≡ Ok w → planner_word p j ≡ w
  unfolding planner_word
  planner-word o = ap number_or (sym e ∙ o)

  -- ---- the sign tells a word from a refusal

  pub refusal-below-zero : ¬ ((refusal_in a).number ≡ 0) → T (lt_z (planner_word p j) (pos 0))
  refusal-below-zero n = rw (planner-refused n) (below (refusal_in a).number n)
    where
      below : (k : ℕ) → ¬ (k ≡ 0) → T (lt_z (neg_ℤ (pos k)) (pos 0))
      below zero n = absurd (n refl)
      below (suc k) n = tt

  pub word-not-below-zero : (refusal_in a).number ≡ 0 → pos 0 ≤ℤ planner_word p j
  unfolding word_answer
  word-not-below-zero z = go (ℕ_discrete whole.number 0)
    where
      own : List Check
      own = bad_length (columns p) j ∷ []

      whole : Refusal
      whole = refusal (of_plan p own)

      W : ℤ
      W = word (level p) (entry p) (every_run p) (every_column p) j

      go : Dec (whole.number ≡ 0) → pos 0 ≤ℤ planner_word p j
      go (yes y) = subst⁻¹ (λ x. pos 0 ≤ℤ x) (planner-word (e ∙ answered-ok whole W y)) (positive (ℕ_discrete (refusal (plan_checks p)).number 0))
        where
          positive : Dec ((refusal (plan_checks p)).number ≡ 0) → pos 0 ≤ℤ W
          positive (yes q) = word-not-negative p (every_run p) (good-sound p (passed-good p refl q)) j
          positive (no n) = absurd (n (ap (λ r. r.number) (sym (plan-refused p own tt refl n)) ∙ y))
      go (no n) = absurd (n (ap (λ (x : Result ℤ Refusal). (refusal_in x).number) (sym (e ∙ answered-err whole W n)) ∙ z))
