-- Document 01, "Worked figures": the rows marked with a star, each with all that it says, in a single statement over their table.
-- Levels of 1 pass by request #102, where the paper has refusal 2.
use Rattle.exact.proofs.Ground.{List, [], ◌∷◌, map, ◌≡◌, refl, ℕ, ◌-◌, pos, ℤ, negsuc, get_or, take, replicate}
use Rattle.std.specs.Prelude.{Result, Ok, Err}
use Rattle.exact.specs.Fractions.{gcd, reduced, smaller_fraction}
use Rattle.rules.specs.declared.Refusal.{Refusal}
use Rattle.rules.specs.Plan.{Plan, plan, columns, runs}
use Rattle.rules.specs.Refusals.{refusal, refusal_in, plan_checks, first_bad_level, first_bad_entry}
use Rattle.words.specs.declared.Sums.{Sums}
use Rattle.words.specs.Words.{score, word_of, word, row_sum}
use Rattle.words.specs.Answers.{word_list, row_list, rows_by_run, words_answer, row_sums_answer}
use Rattle.counts.specs.Counts.{even, balanced, strength, strength_answer}
use Rattle.set_words.specs.SetWords.{relative_of}
use Rattle.resolution.specs.declared.GeneralizedResolution.{GeneralizedResolution}
use Rattle.resolution.specs.Resolution.{greatest, root_of, resolution, largest_ratio, generalized_answer}
use Rattle.held.specs.declared.Held.{Held}
use Rattle.held.specs.Held.{standing, held_of, open_answer, strikes, call_checks, remarked, call_answer}
use Rattle.planner.specs.Calls.{Source, of-plan, of-held, plan_asked, runs_asked, begins}

-- W_1 to W_m, the row sums of length j of the runs from 0 on, the strength, R and GR in thousandths, a strike, and the check of a plan
data Question : Type 0 where
  words strong rated : Source → Question
  row_sums : Source → ℕ → Question
  strike : Held → ℕ → Question
  checked : Plan → Question

abbrev numbers : Refusal → List ℤ
numbers r = pos r.number ∷ pos r.first ∷ pos r.second ∷ []

-- of an answer 0 and what it shows, or the refusal with its places
abbrev said : {A : Type 0} → (A → List ℤ) → Result A Refusal → List ℤ
said shown (Ok value) = pos 0 ∷ shown value
said shown (Err r) = numbers r

-- what is answered; of a strike and a check the refusal with its places
ask : Question → List ℤ
unfolding first_bad_level first_bad_entry open_answer held_of standing call_answer call_checks remarked word_list row_list rows_by_run row_sum word word_of
    score even balanced strength gcd reduced smaller_fraction relative_of greatest root_of resolution largest_ratio words_answer row_sums_answer strength_answer
    generalized_answer
ask (words s) = said (take (columns (plan_asked s))) (words_answer (plan_asked s) (runs_asked s) (begins s))
ask (strong s) = said (λ t. pos t ∷ []) (strength_answer (plan_asked s) (runs_asked s) (begins s))
ask (rated s) =
    said (λ (x : GeneralizedResolution). pos x.resolution ∷ pos x.thousandths ∷ []) (generalized_answer (plan_asked s) (runs_asked s) (begins s))
ask (row_sums s j) =
    said (λ rows. map (λ (row : Sums). get_or row.sums (j - 1) (pos 0)) (take (runs (plan_asked s)) rows))
    (row_sums_answer (plan_asked s) (runs_asked s) (begins s))
ask (strike h f) = numbers (refusal_in (call_answer h (strikes f)).answer)
ask (checked p) = numbers (refusal (plan_checks p))

record Figure : Type 0 where
  question : Question
  answer : List ℤ

abbrev is : Question → List ℤ → Figure
is q a = record { question = q; answer = a }

-- levels 2,3, runs 00 01 12, the plan of the listing
abbrev listed : Plan
listed = plan (2 ∷ 3 ∷ []) (0 ∷ 0 ∷ 0 ∷ 1 ∷ 1 ∷ 2 ∷ [])

-- levels 2,2,2, runs 000 011 101 110
abbrev half : Plan
half = plan (2 ∷ 2 ∷ 2 ∷ []) (0 ∷ 0 ∷ 0 ∷ 0 ∷ 1 ∷ 1 ∷ 1 ∷ 0 ∷ 1 ∷ 1 ∷ 1 ∷ 0 ∷ [])

-- levels 3,2, all six runs, and one run
abbrev full : Plan
full = plan (3 ∷ 2 ∷ []) (0 ∷ 0 ∷ 0 ∷ 1 ∷ 1 ∷ 0 ∷ 1 ∷ 1 ∷ 2 ∷ 0 ∷ 2 ∷ 1 ∷ [])

abbrev single : Plan
single = plan (3 ∷ 2 ∷ []) (2 ∷ 1 ∷ [])

-- m columns of the level s, one run of zeros; one column of two levels, n runs
abbrev wide : ℕ → ℕ → Plan
wide m s = plan (replicate m s) (replicate m 0)

abbrev long : ℕ → Plan
long n = plan (2 ∷ []) (replicate n 0)

-- the plan opened, and with run f struck
abbrev opened : Plan → Held
opened p = (open_answer p).held

abbrev without : ℕ → Plan → Source
without f p = of-held (call_answer (opened p) (strikes f)).held

abbrev passes : Plan → Figure
passes p = is (checked p) (pos 0 ∷ pos 0 ∷ pos 0 ∷ [])

-- a list for each row of the paper, in its order
starred : List (List Figure)
starred =
    (is (row_sums (of-plan listed) 1) (pos 0 ∷ pos 1 ∷ pos 1 ∷ negsuc 0 ∷ []) ∷ is (row_sums (of-plan listed) 2) (pos 0 ∷ pos 2 ∷ pos 2 ∷ pos 4 ∷ []) ∷ [])
    ∷ (is (words (without 0 listed)) (pos 0 ∷ pos 2 ∷ pos 6 ∷ []) ∷ is (words (without 2 listed)) (pos 0 ∷ pos 6 ∷ pos 2 ∷ []) ∷ [])
    ∷ (is (words (of-plan half)) (pos 0 ∷ pos 0 ∷ pos 0 ∷ pos 16 ∷ [])
    ∷ is (strong (of-plan half)) (pos 0 ∷ pos 2 ∷ [])
    ∷ is (rated (of-plan half)) (pos 0 ∷ pos 3 ∷ pos 3000 ∷ [])
    ∷ [])
    ∷ map (λ f. is (words (without f half)) (pos 0 ∷ pos 3 ∷ pos 3 ∷ pos 9 ∷ [])) (0 ∷ 1 ∷ 2 ∷ 3 ∷ [])
    ∷ (is (words (of-plan full)) (pos 0 ∷ pos 0 ∷ pos 0 ∷ [])
    ∷ is (strong (of-plan full)) (pos 0 ∷ pos 2 ∷ [])
    ∷ is (rated (of-plan full)) (pos 11 ∷ pos 0 ∷ pos 0 ∷ [])
    ∷ [])
    ∷ (is (words (of-plan single)) (pos 0 ∷ pos 3 ∷ pos 2 ∷ [])
    ∷ is (rated (of-plan single)) (pos 0 ∷ pos 1 ∷ pos 1000 ∷ [])
    ∷ is (strike (opened single) 0) (pos 10 ∷ pos 0 ∷ pos 0 ∷ [])
    ∷ [])
    ∷ (passes (wide 1 1) ∷ is (checked (wide 1 17)) (pos 2 ∷ pos 0 ∷ pos 0 ∷ []) ∷ passes (wide 1 2) ∷ passes (wide 1 16) ∷ [])
    ∷ (is (checked (wide 8 16)) (pos 3 ∷ pos 0 ∷ pos 0 ∷ []) ∷ passes (wide 7 16) ∷ [])
    ∷ (passes (long 256) ∷ is (checked (long 257)) (pos 4 ∷ pos 0 ∷ pos 0 ∷ []) ∷ [])
    ∷ []

starred-figures : map (map (λ x. ask x.question)) starred ≡ map (map (λ x. x.answer)) starred
unfolding ask starred open_answer first_bad_level first_bad_entry held_of standing call_answer call_checks remarked word_list word word_of score
starred-figures = refl
