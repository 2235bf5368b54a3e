-- Document 01, "Words": what the library and the planner answer, of the runs rs of a plan p.
-- A call begins with the checks of the plan, or of a held plan: `start` puts them before its own.
use Rattle.std.specs.Prelude.{cond, List, [], ◌∷◌, map, ℕ, ℤ, Result}
use Rattle.exact.specs.Lists.{from, holds}
use Rattle.rules.specs.Plan.{Plan, columns, level, entry, every_column, every_run, most_runs}
use Rattle.rules.specs.declared.Refusal.{Refusal}
use Rattle.rules.specs.Refusals.{Check, refusal, answered, number_or, of_plan, bad_length, level_checks}
use Rattle.pairs.specs.Words.{word}
pub use Rattle.pairs.specs.Lists.{by_length, zeros}
unfoldable pub use Rattle.pairs.specs.Lists.{pair_list, row_list, diagonal_list}
use Rattle.words.specs.declared.Sums.{Sums}

module _ (p : Plan) (rs : List ℕ) where
  -- W_1, W_2, ..
  unfoldable pub word_list : List ℤ
  word_list = by_length (word (level p) (entry p) rs (every_column p))

  -- every run's row sums, by run number; struck runs, and places without a run, hold zero
  unfoldable pub rows_by_run : List Sums
  rows_by_run = map (λ f. record { sums = cond (holds f rs) (row_list p rs f) zeros }) (from 0 most_runs)

  unfoldable pub words_answer : (List Check → List Check) → Result (List ℤ) Refusal
  words_answer start = answered (refusal (start [])) word_list

  unfoldable pub word_answer : (List Check → List Check) → ℕ → Result ℤ Refusal
  word_answer start j =
      answered (refusal (start (bad_length (columns p) j ∷ []))) (word (level p) (entry p) rs (every_column p) j)

  unfoldable pub row_sums_answer : (List Check → List Check) → Result (List Sums) Refusal
  row_sums_answer start = answered (refusal (start [])) rows_by_run

-- of levels alone
unfoldable pub diagonal_answer : Plan → Result (List ℤ) Refusal
diagonal_answer p = answered (refusal (level_checks p)) (diagonal_list p)

-- what the planner gets: the word, or the refusal number negated
unfoldable pub planner_word : Plan → ℕ → ℤ
planner_word p j = number_or (word_answer p (every_run p) (of_plan p) j)
