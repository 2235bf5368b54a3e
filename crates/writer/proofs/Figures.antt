-- Worked figures of the writer, by computation: document 01's four lines.
use Rattle.exact.proofs.Ground.{[], ◌∷◌, map, ◌≡◌, refl}
use Rattle.std.specs.Prelude.{Ok, Err}
use Rattle.rules.specs.Plan.{Plan, plan, every_run}
use Rattle.rules.specs.Refusals.{plain, placed, of_plan, first_bad_level, first_bad_entry}
use Rattle.text.specs.Bytes.{lines}
use Rattle.text.specs.Decimal.{decimal}
use Rattle.text.specs.Text.{write_line}
use Rattle.writer.specs.Writer.{text_of, write_text, write_answer}

abbrev example_plan : Plan
example_plan = plan (2 ∷ 3 ∷ []) (0 ∷ 0 ∷ 0 ∷ 1 ∷ 1 ∷ 2 ∷ [])

pub example-written : write_text example_plan ≡ lines ("2,3" ∷ "0,0" ∷ "0,1" ∷ "1,2" ∷ [])
unfolding text_of write_line decimal
example-written = refl

-- without its run 1
pub example-shortened : text_of example_plan (0 ∷ 2 ∷ []) ≡ lines ("2,3" ∷ "0,0" ∷ "1,2" ∷ [])
unfolding text_of write_line decimal
example-shortened = refl

-- what the writer answers with a room of 16 bytes: for the example, one run more, a bad entry, half a run, a bad level, no column
pub writer-answers :
    map (λ p. write_answer p (every_run p) (of_plan p) 16)
    (example_plan
    ∷ plan (2 ∷ 3 ∷ []) (0 ∷ 0 ∷ 0 ∷ 1 ∷ 1 ∷ 2 ∷ 1 ∷ 1 ∷ [])
    ∷ plan (2 ∷ 3 ∷ []) (0 ∷ 0 ∷ 2 ∷ 3 ∷ [])
    ∷ plan (2 ∷ 3 ∷ []) (0 ∷ 3 ∷ 0 ∷ [])
    ∷ plan (2 ∷ 17 ∷ []) []
    ∷ plan [] []
    ∷ [])
    ≡ Ok 16 ∷ Err (plain 7) ∷ Err (placed 5 1 0) ∷ Err (plain 4) ∷ Err (placed 2 1 0) ∷ Err (plain 1) ∷ []
unfolding write_answer text_of write_line decimal first_bad_level first_bad_entry
writer-answers = refl
