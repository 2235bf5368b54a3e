-- Document 01, "Strength, resolution, projections": a table of place questions with their answers, and one statement over it.
use Rattle.exact.proofs.Ground.{List, [], ◌∷◌, map, ◌++◌, ◌≡◌, refl, ℕ}
use Rattle.std.specs.Prelude.{Result, Ok, Err}
use Rattle.exact.specs.Lists.{filled_to}
use Rattle.rules.specs.declared.Refusal.{Refusal}
use Rattle.rules.specs.Refusals.{accepted}
use Rattle.sets.specs.Sets.{place_of, place_answer, set_at, set_answer}

-- the place of columns, and the columns at a place, of f of m columns
data Question : Type 0 where
  place : (m f : ℕ) → List ℕ → Question
  set : (m f k : ℕ) → Question

-- a refusal's number and places
abbrev numbers : Refusal → List ℕ
numbers r = r.number ∷ r.first ∷ r.second ∷ []

-- as numbers in a row: no refusal and the value, or the refusal and what stands in place of a value
abbrev by_result : {A : Type 0} → Result A Refusal → (A → List ℕ) → List ℕ → List ℕ
by_result (Ok x) row blank = numbers accepted ++ row x
by_result (Err r) row blank = numbers r ++ blank

-- the answer, as numbers in a row: the refusal, then the place or the four columns
ask : Question → List ℕ
unfolding place_of place_answer set_at set_answer
ask (place m f I) = by_result (place_answer m f I) (λ k. k ∷ []) (0 ∷ [])
ask (set m f k) = by_result (set_answer m f k) (λ I. filled_to 4 0 I) (filled_to 4 0 [])

record Figure : Type 0 where
  question : Question
  answer : List ℕ

abbrev is : Question → List ℕ → Figure
is q a = record { question = q; answer = a }

abbrev figures : List Figure
figures =
    -- the set at the place that plan's figures give
    is (set 5 3 5) (0 ∷ 0 ∷ 0 ∷ 0 ∷ 3 ∷ 4 ∷ 0 ∷ [])
    -- the first and the last set
    ∷ is (place 5 3 (0 ∷ 1 ∷ 2 ∷ [])) (0 ∷ 0 ∷ 0 ∷ 0 ∷ [])
    ∷ is (place 5 3 (2 ∷ 3 ∷ 4 ∷ [])) (0 ∷ 0 ∷ 0 ∷ 9 ∷ [])
    ∷ is (set 24 1 23) (0 ∷ 0 ∷ 0 ∷ 23 ∷ 0 ∷ 0 ∷ 0 ∷ [])
    -- 1: no column, or more than 24
    ∷ is (place 0 1 (0 ∷ [])) (1 ∷ 0 ∷ 0 ∷ 0 ∷ [])
    ∷ is (set 25 1 0) (1 ∷ 0 ∷ 0 ∷ 0 ∷ 0 ∷ 0 ∷ 0 ∷ [])
    -- 6: f is outside 1..4 or above m
    ∷ is (place 5 0 []) (6 ∷ 0 ∷ 0 ∷ 0 ∷ [])
    ∷ is (set 5 5 0) (6 ∷ 0 ∷ 0 ∷ 0 ∷ 0 ∷ 0 ∷ 0 ∷ [])
    ∷ is (place 2 3 (0 ∷ 1 ∷ 2 ∷ [])) (6 ∷ 0 ∷ 0 ∷ 0 ∷ [])
    -- 8: the columns don't rise, are out of range or not f in number; the place is out of range
    ∷ is (place 5 3 (0 ∷ 4 ∷ 3 ∷ [])) (8 ∷ 0 ∷ 0 ∷ 0 ∷ [])
    ∷ is (place 5 3 (0 ∷ 3 ∷ 3 ∷ [])) (8 ∷ 0 ∷ 0 ∷ 0 ∷ [])
    ∷ is (place 5 3 (0 ∷ 3 ∷ 5 ∷ [])) (8 ∷ 0 ∷ 0 ∷ 0 ∷ [])
    ∷ is (place 5 3 (0 ∷ 3 ∷ [])) (8 ∷ 0 ∷ 0 ∷ 0 ∷ [])
    ∷ is (set 5 3 9) (0 ∷ 0 ∷ 0 ∷ 2 ∷ 3 ∷ 4 ∷ 0 ∷ [])
    ∷ is (set 5 3 10) (8 ∷ 0 ∷ 0 ∷ 0 ∷ 0 ∷ 0 ∷ 0 ∷ [])
    -- 1 ahead of 6, 6 ahead of 8
    ∷ is (place 25 5 (1 ∷ 0 ∷ [])) (1 ∷ 0 ∷ 0 ∷ 0 ∷ [])
    ∷ is (place 5 5 (1 ∷ 0 ∷ [])) (6 ∷ 0 ∷ 0 ∷ 0 ∷ [])
    ∷ []

worked-figures : map (λ x. ask x.question) figures ≡ map (λ x. x.answer) figures
unfolding ask
worked-figures = refl
