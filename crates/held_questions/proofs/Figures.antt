-- Worked figures: answers over the runs that stand, from the definitions. The starred ones of document 01 stand in `planner` Starred.
use Rattle.exact.proofs.Ground.{List, [], ◌∷◌, map, ◌≡◌, refl, ℕ, ◌-◌, pos, ℤ, get_or, take}
use Rattle.std.specs.Prelude.{Result, Ok, Err}
use Rattle.std.specs.Result.{result_unwrap_or}
use Rattle.exact.specs.Lists.{filled_to}
use Rattle.exact.specs.Fractions.{smaller_fraction}
use Rattle.best.specs.Best.{best}
use Rattle.rules.specs.Plan.{Plan, plan}
use Rattle.rules.specs.declared.Refusal.{Refusal}
use Rattle.rules.specs.Refusals.{refusal_in, first_bad_level, first_bad_entry}
use Rattle.words.specs.Words.{score, word_of, word, row_sum}
use Rattle.words.specs.Answers.{word_list, row_list, rows_by_run, words_answer, word_answer, row_sums_answer}
use Rattle.counts.specs.Counts.{even, balanced, strength, strength_answer}
use Rattle.compare.specs.Compare.{A, pattern, compare_patterns}
use Rattle.advice.specs.Advice.{advice, in_turn, advice_answer, turns_answer}
use Rattle.held.specs.declared.Held.{Held}
use Rattle.held.specs.Held.{standing, held_of, open_answer, Call, strikes, call_checks, remarked, call_answer}
use Rattle.held.specs.History.{after}
use Rattle.held_questions.specs.Answers.{held_words, held_word, held_row_sums, held_strength, held_advice, held_turns}

-- of the plan held after an opening and the calls: the words of length 1 and 2, the word of one length, the row sums of one length of runs 0
-- to 2, the strength, the run advised for loss, and the best k to lose in turn, as a list and as a row of three with zero in each place left over
data Question : Type 0 where
  words_of strength_of advice_of : Plan → List Call → Question
  one_word row_sums_of turns_of turns_in_row : Plan → List Call → ℕ → Question

abbrev held_after : Plan → List Call → Held
held_after p cs = after (open_answer p).held cs

-- the refusal's number, or 0 and then the answer
says : {A : Type 0} → (A → List ℤ) → Result A Refusal → List ℤ
says numbers (Ok value) = pos 0 ∷ numbers value
says numbers (Err r) = pos r.number ∷ []

ask : Question → List ℤ
unfolding says open_answer first_bad_level first_bad_entry held_of standing call_answer call_checks remarked word_list word word_of score smaller_fraction
    row_sum row_list rows_by_run even balanced strength A pattern compare_patterns best advice in_turn words_answer word_answer row_sums_answer strength_answer
    advice_answer turns_answer held_words held_word held_row_sums held_strength held_advice held_turns
ask (words_of p cs) = says (λ ws. take 2 ws) (held_words (held_after p cs)).answer
ask (strength_of p cs) = says (λ t. pos t ∷ []) (held_strength (held_after p cs)).answer
ask (advice_of p cs) = says (λ f. pos f ∷ []) (held_advice (held_after p cs)).answer
ask (one_word p cs j) = says (λ w. w ∷ []) (held_word (held_after p cs) j).answer
ask (row_sums_of p cs j) = says (λ rows. map (λ row. get_or row.sums (j - 1) (pos 0)) (take 3 rows)) (held_row_sums (held_after p cs)).answer
ask (turns_of p cs k) = says (map pos) (held_turns (held_after p cs) k).answer
ask (turns_in_row p cs k) =
    let a = (held_turns (held_after p cs) k).answer in
    pos (refusal_in a).number ∷ map pos (filled_to 3 0 (result_unwrap_or a []))

record Figure : Type 0 where
  question : Question
  answer : List ℤ

abbrev is : Question → List ℤ → Figure
is q a = record { question = q; answer = a }

-- levels 2,3, runs 00 01 12
abbrev listed : Plan
listed = plan (2 ∷ 3 ∷ []) (0 ∷ 0 ∷ 0 ∷ 1 ∷ 1 ∷ 2 ∷ [])

-- levels 2,2,2, runs 000 011 101 110
abbrev half : Plan
half = plan (2 ∷ 2 ∷ 2 ∷ []) (0 ∷ 0 ∷ 0 ∷ 0 ∷ 1 ∷ 1 ∷ 1 ∷ 0 ∷ 1 ∷ 1 ∷ 1 ∷ 0 ∷ [])

-- levels 3,2, one run; and no plan, so that the opening is refused
abbrev single : Plan
single = plan (3 ∷ 2 ∷ []) (2 ∷ 1 ∷ [])

abbrev refused : Plan
refused = plan [] []

figures : List Figure
figures =
    is (words_of refused []) (pos 10 ∷ [])
    ∷ is (strength_of half (strikes 0 ∷ [])) (pos 0 ∷ pos 0 ∷ [])
    ∷ is (advice_of listed []) (pos 0 ∷ pos 0 ∷ [])
    -- of two runs either leaves one, and among equals it is the lowest number
    ∷ is (advice_of listed (strikes 0 ∷ [])) (pos 0 ∷ pos 1 ∷ [])
    ∷ is (advice_of single []) (pos 10 ∷ [])
    ∷ is (turns_of listed (strikes 0 ∷ []) 1) (pos 0 ∷ pos 1 ∷ [])
    ∷ is (turns_in_row listed (strikes 0 ∷ []) 1) (pos 0 ∷ pos 1 ∷ pos 0 ∷ pos 0 ∷ [])
    ∷ is (turns_of listed (strikes 0 ∷ []) 2) (pos 10 ∷ [])
    ∷ is (turns_in_row listed (strikes 0 ∷ []) 2) (pos 10 ∷ pos 0 ∷ pos 0 ∷ pos 0 ∷ [])
    -- a length above m is 8
    ∷ is (one_word listed (strikes 0 ∷ []) 2) (pos 0 ∷ pos 6 ∷ [])
    ∷ is (one_word listed (strikes 0 ∷ []) 3) (pos 8 ∷ [])
    -- a struck run holds zero
    ∷ is (row_sums_of listed (strikes 0 ∷ []) 1) (pos 0 ∷ pos 0 ∷ pos 1 ∷ pos 1 ∷ [])
    ∷ is (row_sums_of listed (strikes 0 ∷ []) 2) (pos 0 ∷ pos 0 ∷ pos 3 ∷ pos 3 ∷ [])
    -- on the plan of a refused opening 10 comes ahead of 6 and 8
    ∷ is (turns_of refused [] 4) (pos 10 ∷ [])
    ∷ is (turns_in_row refused [] 4) (pos 10 ∷ pos 0 ∷ pos 0 ∷ pos 0 ∷ [])
    ∷ is (one_word refused [] 0) (pos 10 ∷ [])
    ∷ []

standing-figures : map (λ x. ask x.question) figures ≡ map (λ x. x.answer) figures
unfolding ask figures
standing-figures = refl
