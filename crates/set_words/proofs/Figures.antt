-- Document 01, "Worked figures": words of single sets and refusals, in a single statement over their table.
use Rattle.exact.proofs.Ground.{List, [], ◌∷◌, map, ◌≡◌, refl, ℕ, ℤ, nat_abs}
use Rattle.rules.specs.Plan.{Plan, every_run}
use Rattle.std.specs.Prelude.{Result, Ok, Err}
use Rattle.rules.specs.declared.Refusal.{Refusal}
use Rattle.rules.specs.Refusals.{of_plan, first_bad_level, first_bad_entry}
use Rattle.words.specs.Words.{score, word_of}
use Rattle.set_words.specs.SetWords.{set_word_answer}
use Rattle.set_words.proofs.Printed.{listed, graded, L18}

-- W(I) of the f columns I of a plan: 0 and the word, or the refusal's number
record Figure : Type 0 where
  plan : Plan
  size : ℕ
  columns : List ℕ
  answer : List ℕ

abbrev is : Plan → ℕ → List ℕ → List ℕ → Figure
is p f I a = record { plan = p; size = f; columns = I; answer = a }

ask : Figure → List ℕ
unfolding first_bad_level first_bad_entry score word_of set_word_answer
ask x =
    told (set_word_answer x.plan (every_run x.plan) (of_plan x.plan) x.size x.columns)
  where
    told : Result ℤ Refusal → List ℕ
    told (Ok w) = 0 ∷ nat_abs w ∷ []
    told (Err r) = r.number ∷ []

figures : List Figure
figures =
    is L18 3 (2 ∷ 3 ∷ 4 ∷ []) (0 ∷ 162 ∷ [])
    ∷ is L18 3 (1 ∷ 2 ∷ 5 ∷ []) (0 ∷ 324 ∷ [])
    ∷ is L18 3 (1 ∷ 3 ∷ 4 ∷ []) (0 ∷ 648 ∷ [])
    -- columns that do not rise, are too few, or are none of the plan's
    ∷ is listed 2 (1 ∷ 0 ∷ []) (8 ∷ [])
    ∷ is listed 2 (1 ∷ []) (8 ∷ [])
    ∷ is listed 1 (2 ∷ []) (8 ∷ [])
    -- with column 1, of one level, and without
    ∷ is graded 2 (0 ∷ 1 ∷ []) (0 ∷ 0 ∷ [])
    ∷ is graded 2 (0 ∷ 2 ∷ []) (0 ∷ 8 ∷ [])
    ∷ []

as-the-paper-says : map ask figures ≡ map (λ x. x.answer) figures
unfolding ask figures
as-the-paper-says = refl
