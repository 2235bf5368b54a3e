-- Document 01, "The held plan": advice, and losing in turn, of the listing's plan and of one with a run more, from the definitions.
use Rattle.exact.proofs.Ground.{List, [], ◌∷◌, map, ◌≡◌, refl, ℕ}
use Rattle.std.specs.Prelude.{Result, Ok, Err}
use Rattle.std.specs.Result.{result_unwrap_or}
use Rattle.exact.specs.Lists.{filled_to}
use Rattle.exact.specs.Fractions.{smaller_fraction}
use Rattle.best.specs.Best.{best}
use Rattle.rules.specs.Plan.{Plan, plan, every_run}
use Rattle.rules.specs.declared.Refusal.{Refusal}
use Rattle.rules.specs.Refusals.{of_plan, refusal_in, first_bad_level, first_bad_entry}
use Rattle.words.specs.Words.{score, word_of, word}
use Rattle.compare.specs.Compare.{A, pattern, compare_patterns}
use Rattle.advice.specs.Advice.{advice, in_turn, advice_answer, turns_answer}

-- the run advised for loss, and the best k to lose in turn: as a list, and as a row of three with zero in each place left over
data Question : Type 0 where
  advised : Plan → Question
  turns turns_in_row : Plan → ℕ → Question

-- the refusal's number, or 0 and then the runs
says : {A : Type 0} → (A → List ℕ) → Result A Refusal → List ℕ
says runs (Ok value) = 0 ∷ runs value
says runs (Err r) = r.number ∷ []

ask : Question → List ℕ
unfolding says first_bad_level first_bad_entry smaller_fraction score word_of word A pattern compare_patterns best advice in_turn advice_answer turns_answer
ask (advised p) = says (λ f. f ∷ []) (advice_answer p (every_run p) (of_plan p))
ask (turns p k) = says (λ fs. fs) (turns_answer p (every_run p) (of_plan p) k)
ask (turns_in_row p k) = let a = turns_answer p (every_run p) (of_plan p) k in (refusal_in a).number ∷ filled_to 3 0 (result_unwrap_or a [])

record Figure : Type 0 where
  question : Question
  answer : List ℕ

abbrev is : Question → List ℕ → Figure
is q a = record { question = q; answer = a }

-- levels 2,3 and the runs 00 01 12; then 02 beside them
abbrev listed : Plan
listed = plan (2 ∷ 3 ∷ []) (0 ∷ 0 ∷ 0 ∷ 1 ∷ 1 ∷ 2 ∷ [])

abbrev longer : Plan
longer = plan (2 ∷ 3 ∷ []) (0 ∷ 0 ∷ 0 ∷ 1 ∷ 1 ∷ 2 ∷ 0 ∷ 2 ∷ [])

figures : List Figure
figures =
    is (advised listed) (0 ∷ 0 ∷ [])
    ∷ is (advised longer) (0 ∷ 3 ∷ [])
    -- in the order taken, each time of the runs that are left
    ∷ is (turns longer 3) (0 ∷ 3 ∷ 0 ∷ 1 ∷ [])
    ∷ is (turns longer 1) (0 ∷ 3 ∷ [])
    ∷ is (turns listed 2) (0 ∷ 0 ∷ 1 ∷ [])
    -- more than k must stand; 6 ahead of 10
    ∷ is (turns listed 3) (10 ∷ [])
    ∷ is (turns listed 4) (6 ∷ [])
    ∷ is (turns listed 0) (6 ∷ [])
    -- the same in a row
    ∷ is (turns_in_row longer 3) (0 ∷ 3 ∷ 0 ∷ 1 ∷ [])
    ∷ is (turns_in_row longer 1) (0 ∷ 3 ∷ 0 ∷ 0 ∷ [])
    ∷ is (turns_in_row listed 2) (0 ∷ 0 ∷ 1 ∷ 0 ∷ [])
    ∷ is (turns_in_row listed 3) (10 ∷ 0 ∷ 0 ∷ 0 ∷ [])
    ∷ is (turns_in_row listed 4) (6 ∷ 0 ∷ 0 ∷ 0 ∷ [])
    ∷ is (turns_in_row listed 0) (6 ∷ 0 ∷ 0 ∷ 0 ∷ [])
    ∷ []

advice-figures : map (λ x. ask x.question) figures ≡ map (λ x. x.answer) figures
unfolding ask figures
advice-figures = refl
