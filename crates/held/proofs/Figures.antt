-- Worked figures: strikes and reinstatements, from the definitions. The starred ones of document 01 stand in `planner` Starred.
use Rattle.exact.proofs.Ground.{List, [], ◌∷◌, map, ◌≡◌, refl, pos, ℤ, take}
use Rattle.rules.specs.Plan.{Plan, plan}
use Rattle.rules.specs.Refusals.{refusal_in, first_bad_level, first_bad_entry}
use Rattle.words.specs.Words.{score, word_of, word}
use Rattle.words.specs.Answers.{word_list}
use Rattle.held.specs.declared.Held.{Held}
use Rattle.held.specs.Held.{standing, held_of, open_answer, Call, strikes, reinstates, call_checks, remarked, call_answer}
use Rattle.held.specs.History.{after}

-- of the plan held after an opening and the calls: the words of length 1 and 2, the refusal number of one more call
data Question : Type 0 where
  words : Plan → List Call → Question
  refused_call : Plan → List Call → Call → Question

abbrev held_after : Plan → List Call → Held
held_after p cs = after (open_answer p).held cs

ask : Question → List ℤ
unfolding open_answer first_bad_level first_bad_entry held_of standing call_answer call_checks remarked word_list word word_of score
ask (words p cs) = take 2 (held_after p cs).words
ask (refused_call p cs c) = pos (refusal_in (call_answer (held_after p cs) c).answer).number ∷ []

record Figure : Type 0 where
  question : Question
  answer : List ℤ

abbrev is : Question → List ℤ → Figure
is q a = record { question = q; answer = a }

-- levels 2,3, runs 00 01 12
abbrev listed : Plan
listed = plan (2 ∷ 3 ∷ []) (0 ∷ 0 ∷ 0 ∷ 1 ∷ 1 ∷ 2 ∷ [])

-- no plan: the opening is refused
abbrev refused : Plan
refused = plan [] []

-- a run struck and reinstated, and the refusals of calls on a plan and on the empty plan
figures : List Figure
figures =
    is (words listed (strikes 0 ∷ reinstates 0 ∷ [])) (pos 1 ∷ pos 8 ∷ [])
    ∷ is (words listed (strikes 0 ∷ reinstates 0 ∷ strikes 2 ∷ [])) (pos 6 ∷ pos 2 ∷ [])
    ∷ is (refused_call listed [] (strikes 3)) (pos 8 ∷ [])
    ∷ is (refused_call listed [] (reinstates 0)) (pos 9 ∷ [])
    ∷ is (refused_call listed (strikes 0 ∷ []) (strikes 0)) (pos 9 ∷ [])
    ∷ is (refused_call refused [] (strikes 0)) (pos 8 ∷ [])
    ∷ []

held-figures : map (λ c. ask c.question) figures ≡ map (λ c. c.answer) figures
unfolding ask figures
held-figures = refl
