-- Worked figures of the grammar: what the reader answers for some texts, by computation.
use Rattle.exact.proofs.Ground.{List, [], ◌∷◌, map, ◌++◌, ◌≡◌, refl, ℕ, replicate}
use Rattle.rules.specs.Plan.{Plan, plan}
use Rattle.rules.specs.Refusals.{answered, accepted, plain, placed, first_bad_level, first_bad_entry}
use Rattle.text.specs.Bytes.{bytes, lines}
use Rattle.text.specs.Decimal.{decimal}
use Rattle.text.specs.Text.{malformed_line, plan_of, write_line}
use Rattle.text.specs.Reader.{read_refusal, read_answer, sizes, filled}

-- document 01's four lines
abbrev example : List ℕ
example = lines ("2,3" ∷ "0,0" ∷ "0,1" ∷ "1,2" ∷ [])

abbrev example_plan : Plan
example_plan = plan (2 ∷ 3 ∷ []) (0 ∷ 0 ∷ 0 ∷ 1 ∷ 1 ∷ 2 ∷ [])

abbrev room : List ℕ
room = replicate 7 9

-- its plan, its answer with rooms for 2 levels and 7 entries, and what the table's room then holds
pub example-read : plan_of example ≡ example_plan
unfolding plan_of
example-read = refl

pub example-answer : read_answer example (9 ∷ 9 ∷ []) room ≡ answered accepted (sizes example_plan)
unfolding read_refusal malformed_line plan_of first_bad_level first_bad_entry
example-answer = refl

pub example-room : filled (read_refusal example 2 7) (plan_of example).table room ≡ 0 ∷ 0 ∷ 0 ∷ 1 ∷ 1 ∷ 2 ∷ 9 ∷ []
unfolding read_refusal malformed_line plan_of first_bad_level first_bad_entry
example-room = refl

-- a leading zero, an empty line, three digits, no last byte 10, no text, a run of another length, a byte 13, a byte 0, a space, a comma too many
abbrev malformed_texts : List (List ℕ)
malformed_texts =
    lines ("2,3" ∷ "0,0" ∷ "0,01" ∷ "1,2" ∷ [])
    ∷ lines ("2,3" ∷ "" ∷ "0,0" ∷ [])
    ∷ lines ("2,3" ∷ "0,0" ∷ "0,100" ∷ [])
    ∷ (lines ("2,3" ∷ "0,0" ∷ []) ++ bytes "0,1")
    ∷ []
    ∷ lines ("2,3" ∷ "0" ∷ "0,x" ∷ [])
    ∷ (bytes "2,3" ++ 13 ∷ 10 ∷ bytes "0,0" ++ 10 ∷ [])
    ∷ (lines ("2,3" ∷ []) ++ 0 ∷ 10 ∷ [])
    ∷ lines ("2, 3" ∷ [])
    ∷ lines ("2,3" ∷ "0,0," ∷ [])
    ∷ []

pub first-malformed : map malformed_line malformed_texts ≡ 3 ∷ 2 ∷ 3 ∷ 3 ∷ 1 ∷ 2 ∷ 1 ∷ 2 ∷ 1 ∷ 2 ∷ []
unfolding malformed_line
first-malformed = refl

-- 13 comes before 14, 14 before 1 and 2, 1 before 2, and 7 comes last
pub in_order :
    map (λ text. read_answer text (9 ∷ 9 ∷ []) (replicate 5 9))
    (replicate 32769 10
    ∷ (write_line (replicate 25 0) ++ 10 ∷ 10 ∷ [])
    ∷ (write_line (replicate 25 0) ++ 10 ∷ [])
    ∷ lines ("99,1" ∷ "0" ∷ [])
    ∷ lines ("2,0" ∷ [])
    ∷ lines ("2,3" ∷ "0,3" ∷ [])
    ∷ example
    ∷ [])
    ≡ map (λ r. answered r (sizes example_plan)) (plain 13 ∷ placed 14 2 0 ∷ plain 1 ∷ placed 14 2 0 ∷ placed 2 1 0 ∷ placed 5 0 1 ∷ plain 7 ∷ [])
unfolding read_refusal malformed_line write_line decimal plan_of first_bad_level first_bad_entry
in_order = refl
