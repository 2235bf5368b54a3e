-- Document 01, "Worked figures": tables and refusals, in a single statement over their table.
use Rattle.exact.proofs.Ground.{Bool, true, false, List, [], ◌∷◌, map, ◌++◌, ◌≡◌, refl, ℕ, replicate}
use Rattle.exact.specs.Fractions.{gcd, reduced, smaller_fraction}
use Rattle.std.specs.Prelude.{Result, Ok, Err}
use Rattle.rules.specs.Plan.{Plan, plan, every_run}
use Rattle.rules.specs.declared.Refusal.{Refusal}
use Rattle.rules.specs.Refusals.{of_plan, first_bad_level, first_bad_entry}
use Rattle.words.specs.Words.{score, word_of, word}
use Rattle.set_words.specs.SetWords.{value_of, relative_of}
use Rattle.set_words.proofs.Printed.{listed, graded, L18}
use Rattle.resolution.specs.Resolution.{resolution}
use Rattle.projection_tables.specs.Tables.{rooms, table_of, absolute_table, relative_table, table_answer, table_rooms}

-- the table for size f in rooms of n places that hold 7
record Question : Type 0 where
  relative : Bool
  plan : Plan
  size : ℕ
  places : ℕ

abbrev absolutely : Plan → ℕ → ℕ → Question
absolutely p f n = record { relative = false; plan = p; size = f; places = n }

abbrev relatively : Plan → ℕ → ℕ → Question
relatively p f n = record { relative = true; plan = p; size = f; places = n }

-- the answer, as numbers in a row: 0 and the number of lines, or the refusal's number; and the three rooms one after the other
abbrev said : Result ℕ Refusal → List ℕ → List ℕ
said (Ok lines) numbers = 0 ∷ lines ∷ numbers
said (Err r) numbers = r.number ∷ numbers

ask : Question → List ℕ
unfolding first_bad_level first_bad_entry gcd reduced smaller_fraction score word_of word value_of relative_of resolution table_of absolute_table relative_table table_answer table_rooms
ask q =
    let p = q.plan in
    let R = rooms (replicate q.places 7) (replicate q.places 7) (replicate q.places 7) in
    let S = table_rooms p (every_run p) (of_plan p) q.relative q.size R in
    said (table_answer p (every_run p) (of_plan p) q.relative q.size R) (S.nums ++ S.dens ++ S.counts)

-- every combination of two levels and three: no words
abbrev whole : Plan
whole = plan (2 ∷ 3 ∷ []) (0 ∷ 0 ∷ 0 ∷ 1 ∷ 0 ∷ 2 ∷ 1 ∷ 0 ∷ 1 ∷ 1 ∷ 1 ∷ 2 ∷ [])

record Figure : Type 0 where
  question : Question
  answer : List ℕ

abbrev is : Question → List ℕ → Figure
is q a = record { question = q; answer = a }

figures : List Figure
figures =
    -- 000, Table 2: 0, 1/2, 2/3, 1, 2 with counts 12, 28, 9, 6, 1
    is (absolutely L18 3 5) (0 ∷ 5 ∷ 0 ∷ 1 ∷ 2 ∷ 1 ∷ 2 ∷ 1 ∷ 2 ∷ 3 ∷ 1 ∷ 1 ∷ 12 ∷ 28 ∷ 9 ∷ 6 ∷ 1 ∷ [])
    -- by the smallest level of each set, 2 or 3: 0, 1/4, 1/2, 2/3, 1
    ∷ is (relatively L18 3 5) (0 ∷ 5 ∷ 0 ∷ 1 ∷ 1 ∷ 2 ∷ 1 ∷ 1 ∷ 4 ∷ 2 ∷ 3 ∷ 1 ∷ 12 ∷ 28 ∷ 6 ∷ 9 ∷ 1 ∷ [])
    -- a room of four places is too short for five lines, and stays as it was
    ∷ is (absolutely L18 3 4) (7 ∷ replicate 12 7)
    -- entries past the last line stay as they were
    ∷ is (absolutely listed 1 3) (0 ∷ 2 ∷ 0 ∷ 1 ∷ 7 ∷ 1 ∷ 9 ∷ 7 ∷ 1 ∷ 1 ∷ 7 ∷ [])
    -- R is 1: size 2 is past it for the relative table, and not for the other
    ∷ is (relatively listed 2 1) (16 ∷ replicate 3 7)
    ∷ is (absolutely listed 2 1) (0 ∷ 1 ∷ 8 ∷ 9 ∷ 1 ∷ [])
    -- a column of one level: the sets that hold it have the value 0
    ∷ is (relatively graded 1 3) (0 ∷ 2 ∷ 0 ∷ 1 ∷ 7 ∷ 1 ∷ 9 ∷ 7 ∷ 2 ∷ 1 ∷ 7 ∷ [])
    ∷ is (absolutely graded 2 2) (0 ∷ 2 ∷ 0 ∷ 8 ∷ 1 ∷ 9 ∷ 2 ∷ 1 ∷ [])
    -- 16 stands before 7, and 6 before 16
    ∷ is (relatively graded 3 0) (16 ∷ [])
    ∷ is (relatively graded 4 0) (6 ∷ [])
    -- no words: the relative table is given at every size, and has only zeros
    ∷ is (relatively whole 1 1) (0 ∷ 1 ∷ 0 ∷ 1 ∷ 2 ∷ [])
    ∷ is (relatively whole 2 1) (0 ∷ 1 ∷ 0 ∷ 1 ∷ 1 ∷ [])
    ∷ is (relatively whole 3 1) (6 ∷ replicate 3 7)
    -- size 3 of two columns, and size 0
    ∷ is (absolutely listed 3 1) (6 ∷ replicate 3 7)
    ∷ is (relatively listed 0 1) (6 ∷ replicate 3 7)
    ∷ []

as-the-paper-says : map (λ c. ask c.question) figures ≡ map (λ c. c.answer) figures
unfolding ask figures
as-the-paper-says = refl
