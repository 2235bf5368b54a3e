-- Request #101: the text of a plan and of some of its runs, what the writer answers, and what its parts are given.
use Rattle.std.specs.Prelude.{List, [], ◌∷◌, ◌++◌, map, ℕ, ◌<◌, length, get_or, Result}
use Rattle.exact.specs.Lists.{each}
use Rattle.rules.specs.Plan.{Plan, plan, columns, entry, every_column, every_run}
use Rattle.rules.specs.declared.Refusal.{Refusal}
use Rattle.rules.specs.Refusals.{Check, refusal, answered, bad_room}
use Rattle.plan.specs.Good.{Sound}
use Rattle.text.specs.Text.{write_line, write_lines}

-- ---- the text

-- the entries of run f
abbrev pub row : Plan → ℕ → List ℕ
row p f = map (entry p f) (every_column p)

-- the text of some of a plan's runs: the levels, then each run
unfoldable pub text_of : Plan → List ℕ → List ℕ
text_of p rs = write_lines (p.levels ∷ map (row p) rs)

-- the text of a plan has all its runs
abbrev pub write_text : Plan → List ℕ
write_text p = text_of p (every_run p)

-- the plan that only these runs make, numbered anew
abbrev pub plan_of_runs : Plan → List ℕ → Plan
plan_of_runs p rs = plan p.levels (each rs (row p))

-- ---- the answer

-- 7: the room is smaller than the text of these runs
abbrev pub bad_text_room : Plan → List ℕ → ℕ → Check
bad_text_room p rs bytes = bad_room (length (text_of p rs)) bytes

-- the number of bytes of the text. The room has so many bytes; `start` is how the call begins
unfoldable pub write_answer : Plan → List ℕ → (List Check → List Check) → ℕ → Result ℕ Refusal
write_answer p rs start bytes = answered (refusal (start (bad_text_room p rs bytes ∷ []))) (length (text_of p rs))

-- ---- the parts

-- numbers of one or two digits, at least one of them
pub record Short (xs : List ℕ) : Type 0 where
  pub some : 0 < length xs
  pub small : (i : ℕ) → i < length xs → get_or xs i 0 < 100

-- the line of these numbers, with its end
abbrev pub ended_line : List ℕ → List ℕ
ended_line xs = write_line xs ++ 10 ∷ []

-- a line of levels and 256 runs, each of 24 numbers
abbrev pub most_of_text : ℕ
most_of_text = 18504

-- sound runs of a plan that has columns
pub record Runs (p : Plan) (rs : List ℕ) : Type 0 where
  pub sound : Sound p rs
  pub some-columns : 0 < columns p
