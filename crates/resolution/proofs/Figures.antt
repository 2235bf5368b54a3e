-- Worked figures: R and GR of the listing's plan, a column's figure, columns of one level. The starred ones stand in `planner` Starred.
use Rattle.exact.proofs.Ground.{List, [], ◌∷◌, map, ◌≡◌, refl, ℕ}
use Rattle.exact.specs.Fractions.{gcd, reduced, smaller_fraction}
use Rattle.std.specs.Prelude.{Option, Some, None, Result, Ok, Err}
use lib.Ieee.{Float}
use Rattle.rules.specs.Plan.{Plan, plan, every_run}
use Rattle.rules.specs.declared.Refusal.{Refusal}
use Rattle.rules.specs.Refusals.{of_plan, first_bad_level, first_bad_entry}
use Rattle.words.specs.Words.{score, word_of, word}
use Rattle.set_words.specs.SetWords.{relative_of}
use Rattle.set_words.proofs.Printed.{listed, graded}
use Rattle.resolution.specs.Resolution.{greatest, root_of, resolution, largest_ratio, resolution_answer, generalized_answer}
use Rattle.resolution.specs.Charts.{column_ratio, figure_answer}

-- GR of a plan, R alone, and a column's figure
data Question : Type 0 where
  generalized : Plan → Question
  resolved : Plan → Question
  column : Plan → ℕ → Question

-- the answer, as numbers in a row: what it says, and 0; or its refusal's number
abbrev said : {A : Type 0} → (A → List ℕ) → Result A Refusal → List ℕ
said numbers (Ok a) = 0 ∷ numbers a
said numbers (Err r) = r.number ∷ []

-- 1 for clear
abbrev is_clear : Option Float → ℕ
is_clear (Some x) = 0
is_clear None = 1

-- R, the ratio, GR in thousandths; or R; or 1 for clear
ask : Question → List ℕ
unfolding first_bad_level first_bad_entry score word_of word gcd reduced smaller_fraction relative_of greatest root_of resolution largest_ratio
    resolution_answer generalized_answer column_ratio figure_answer
ask (generalized p) =
    said (λ a. a.resolution ∷ a.ratio.num ∷ a.ratio.den ∷ a.thousandths ∷ []) (generalized_answer p (every_run p) (of_plan p))
ask (resolved p) = said (λ R. R ∷ []) (resolution_answer p (every_run p) (of_plan p))
ask (column p i) = said (λ a. is_clear a ∷ []) (figure_answer p (every_run p) (of_plan p) i)

record Row : Type 0 where
  question : Question
  answer : List ℕ

abbrev is : Question → List ℕ → Row
is q a = record { question = q; answer = a }

-- levels 3,2, all six runs
abbrev full : Plan
full = plan (3 ∷ 2 ∷ []) (0 ∷ 0 ∷ 0 ∷ 1 ∷ 1 ∷ 0 ∷ 1 ∷ 1 ∷ 2 ∷ 0 ∷ 2 ∷ 1 ∷ [])

abbrev figures : List Row
figures =
    is (generalized listed) (0 ∷ 1 ∷ 1 ∷ 9 ∷ 1666 ∷ [])
    ∷ is (resolved listed) (0 ∷ 1 ∷ [])
    ∷ is (resolved full) (11 ∷ [])
    -- column 0 of the listing's plan has the ratio 1/9, column 1 is clear, and there is no column 2; 8 ahead of 11
    ∷ is (column listed 0) (0 ∷ 0 ∷ [])
    ∷ is (column listed 1) (0 ∷ 1 ∷ [])
    ∷ is (column listed 2) (8 ∷ [])
    ∷ is (column full 2) (8 ∷ [])
    ∷ is (column full 1) (11 ∷ [])
    -- a column of one level, the middle one: it changes no figure, and is clear; two such columns have no words
    ∷ is (generalized graded) (0 ∷ 1 ∷ 1 ∷ 9 ∷ 1666 ∷ [])
    ∷ is (column graded 1) (0 ∷ 1 ∷ [])
    ∷ is (generalized (plan (1 ∷ 1 ∷ []) (0 ∷ 0 ∷ []))) (11 ∷ [])
    ∷ []

ratio-figures : map (λ c. ask c.question) figures ≡ map (λ c. c.answer) figures
unfolding ask
ratio-figures = refl
