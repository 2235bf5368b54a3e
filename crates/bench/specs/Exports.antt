-- What the exports for the benchmark and the tests answer: a number, or a refusal's number negated.
use Rattle.std.specs.Prelude.{Bool, List, [], ◌∷◌, ℕ, zero, suc, ℤ, pos, Result, Ok, Err}
use Rattle.std.specs.Result.{result_and}
use Rattle.rules.specs.Plan.{Plan, columns, level, entry, every_column, every_run}
use Rattle.rules.specs.declared.Refusal.{Refusal}
use Rattle.rules.specs.Refusals.{refusal, answered, number_or, of_plan, bad_size}
use Rattle.words.specs.Words.{word}
use Rattle.set_words.specs.SetWords.{set_word_answer}
use Rattle.projection_tables.specs.Tables.{Rooms, table_answer}
use Rattle.resolution.specs.declared.GeneralizedResolution.{GeneralizedResolution}
use Rattle.resolution.specs.Resolution.{generalized_answer}
use Rattle.held.specs.declared.Held.{Held}
use Rattle.held.specs.Held.{open_answer, strikes, reinstates, call_answer}
use Rattle.held_questions.specs.Answers.{held_word}

-- the number of lines in the answer, and the thousandths
abbrev pub lines_in : Result ℕ Refusal → Result ℤ Refusal
lines_in (Ok lines) = Ok (pos lines)
lines_in (Err r) = Err r

abbrev pub thousandths_in : Result GeneralizedResolution Refusal → Result ℤ Refusal
thousandths_in (Ok found) = Ok (pos found.thousandths)
thousandths_in (Err r) = Err r

-- a round: run 0 is struck and reinstated
abbrev pub round : Held → Held
round h = (call_answer (call_answer h (strikes 0)).held (reinstates 0)).held

abbrev pub rounds : Held → ℕ → Held
rounds h zero = h
rounds h (suc k) = round (rounds h k)

-- the word of length j that a plan holds when k rounds have passed and run 0 is struck once more
unfoldable pub strikes_number : Plan → ℕ → ℕ → ℤ
strikes_number p j k =
    let opened = open_answer p in
    number_or (result_and opened.answer (held_word (call_answer (rounds opened.held k) (strikes 0)).held j).answer)

-- the number of lines of the table for size f
unfoldable pub table_number : Bool → Plan → ℕ → Rooms → ℤ
table_number relative p f rooms = number_or (lines_in (table_answer p (every_run p) (of_plan p) relative f rooms))

-- generalized resolution in thousandths
unfoldable pub ratio_number : Plan → ℤ
ratio_number p = number_or (thousandths_in (generalized_answer p (every_run p) (of_plan p)))

-- W(I) of a set of f columns
unfoldable pub set_word_number : Plan → ℕ → List ℕ → ℤ
set_word_number p f I = number_or (set_word_answer p (every_run p) (of_plan p) f I)

-- W(I) of all sets of f columns, added up
unfoldable pub set_words_answer : Plan → ℕ → Result ℤ Refusal
set_words_answer p f = answered (refusal (of_plan p (bad_size (columns p) f ∷ []))) (word (level p) (entry p) (every_run p) (every_column p) f)

abbrev pub set_words_number : Plan → ℕ → ℤ
set_words_number p f = number_or (set_words_answer p f)
