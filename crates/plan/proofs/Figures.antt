-- Worked figures: what is answered of each of these plans and of a set of columns, from the definitions. The starred ones of document 01
-- stand in `planner` Starred.
use Rattle.exact.proofs.Ground.{List, [], ◌∷◌, map, ◌++◌, ◌≡◌, refl, ℕ, replicate}
use Rattle.std.specs.Prelude.{Result, Ok, Err}
use Rattle.rules.specs.declared.Refusal.{Refusal}
use Rattle.rules.specs.Plan.{Plan, plan}
use Rattle.rules.specs.Refusals.{refusal, accepted, plan_checks, first_bad_level, first_bad_entry}
use Rattle.sets.specs.Sets.{place_of, place_answer}

-- the check of a plan, and the place of a set of f of m columns
data Question : Type 0 where
  check : Plan → Question
  place : (m f : ℕ) → List ℕ → Question

-- a refusal's number and places
abbrev numbers : Refusal → List ℕ
numbers r = r.number ∷ r.first ∷ r.second ∷ []

-- no refusal and the value, or the refusal and 0
abbrev by_result : Result ℕ Refusal → List ℕ
by_result (Ok k) = numbers accepted ++ k ∷ []
by_result (Err r) = numbers r ++ 0 ∷ []

-- the answer, as numbers in a row: the refusal, then the place
ask : Question → List ℕ
unfolding place_of place_answer
ask (check p) = numbers (refusal (plan_checks p))
ask (place m f I) = by_result (place_answer m f I)

record Figure : Type 0 where
  question : Question
  answer : List ℕ

abbrev is : Question → List ℕ → Figure
is q a = record { question = q; answer = a }

-- m columns of the level s, one run of zeros
abbrev wide : ℕ → ℕ → Plan
wide m s = plan (replicate m s) (replicate m 0)

figures : List Figure
figures =
    is (place 5 3 (0 ∷ 3 ∷ 4 ∷ [])) (0 ∷ 0 ∷ 0 ∷ 5 ∷ [])
    -- level 0, and 24 columns of one level; the first bad entry is that of run 1, column 2; 1 ahead of 4, 2 ahead of 3, and the first bad level
    ∷ is (check (wide 1 0)) (2 ∷ 0 ∷ 0 ∷ [])
    ∷ is (check (wide 24 1)) (0 ∷ 0 ∷ 0 ∷ [])
    ∷ is (check (plan (2 ∷ 3 ∷ 4 ∷ []) (1 ∷ 2 ∷ 3 ∷ 1 ∷ 2 ∷ 4 ∷ 2 ∷ 0 ∷ 0 ∷ []))) (5 ∷ 1 ∷ 2 ∷ [])
    ∷ is (check (plan [] [])) (1 ∷ 0 ∷ 0 ∷ [])
    ∷ is (check (wide 25 2)) (1 ∷ 0 ∷ 0 ∷ [])
    ∷ is (check (plan (16 ∷ 16 ∷ 16 ∷ 16 ∷ 16 ∷ 16 ∷ 16 ∷ 16 ∷ 0 ∷ 17 ∷ []) [])) (2 ∷ 8 ∷ 0 ∷ [])
    ∷ []

worked-figures : map (λ x. ask x.question) figures ≡ map (λ x. x.answer) figures
unfolding ask figures first_bad_level first_bad_entry
worked-figures = refl
