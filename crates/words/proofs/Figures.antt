-- Worked figures: words and row sums of these plans, from the definitions.
use Rattle.exact.proofs.Ground.{List, [], ◌∷◌, map, ◌≡◌, refl, ℕ, pos, ℤ, negsuc, length, take}
use Rattle.exact.specs.Lists.{from}
use Rattle.rules.specs.Plan.{Plan, plan, columns, level, entry, every_column, every_run}
use Rattle.pairs.specs.Words.{score, word_of, word, pair_sum, row_sum}
use Rattle.words.specs.Given.{both_orders}
use Rattle.pairs.specs.Given.{once}

-- of the runs rs of a plan: W_1 to W_m, the row sums of length j of each of the runs, or the sums with each pair of different runs
-- once; and of such sums those with both orders of each pair and n runs paired with themselves
data Question : Type 0 where
  words : Plan → List ℕ → Question
  row_sums : Plan → List ℕ → ℕ → Question
  pairs_once : Plan → List ℕ → Question
  in_both_orders : ℕ → List ℤ → List ℤ → Question

ask : Question → List ℤ
unfolding score word_of word row_sum pair_sum both_orders
ask (words p rs) = map (word (level p) (entry p) rs (every_column p)) (from 1 (columns p))
ask (row_sums p rs j) = map (row_sum (level p) (entry p) rs (every_column p) j) rs
ask (pairs_once p rs) = map (λ j. once (pair_sum (level p) (entry p) (every_column p) j) rs) (from 1 (columns p))
ask (in_both_orders n own sums) = take (length sums) (both_orders n own sums)

record Figure : Type 0 where
  question : Question
  answer : List ℤ

abbrev is : Question → List ℤ → Figure
is q a = record { question = q; answer = a }

-- levels 2,3, runs 00 01 12
abbrev listed : Plan
listed = plan (2 ∷ 3 ∷ []) (0 ∷ 0 ∷ 0 ∷ 1 ∷ 1 ∷ 2 ∷ [])

-- the same with a column of one level between the two
abbrev graded : Plan
graded = plan (2 ∷ 1 ∷ 3 ∷ []) (0 ∷ 0 ∷ 0 ∷ 0 ∷ 0 ∷ 1 ∷ 1 ∷ 0 ∷ 2 ∷ [])

-- beside the paper's starred figures, which stand in `planner` Starred: the words that the listing prints
figures : List Figure
figures =
    is (words listed (every_run listed)) (pos 1 ∷ pos 8 ∷ [])
    -- the column of one level adds to no word
    ∷ is (words graded (every_run graded)) (pos 1 ∷ pos 8 ∷ pos 0 ∷ [])
    ∷ is (row_sums graded (every_run graded) 2) (pos 2 ∷ pos 2 ∷ pos 4 ∷ [])
    -- the words of the first plan as they are added up, E being 3 and 2
    ∷ is (pairs_once listed (every_run listed)) (negsuc 3 ∷ pos 1 ∷ [])
    ∷ is (in_both_orders 3 (pos 3 ∷ pos 2 ∷ []) (negsuc 3 ∷ pos 1 ∷ [])) (pos 1 ∷ pos 8 ∷ [])
    ∷ []

words-figures : map (λ c. ask c.question) figures ≡ map (λ c. c.answer) figures
unfolding ask figures
words-figures = refl
