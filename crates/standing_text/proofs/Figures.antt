-- Request #101, worked figures: document 01's plan 2,3 / 0,0 / 0,1 / 1,2 rewritten and handed over, from the definitions.
use Rattle.exact.proofs.Ground.{List, [], ◌∷◌, map, ◌++◌, ◌≡◌, refl, ℕ, replicate}
use Rattle.rules.specs.Plan.{Plan, plan}
use Rattle.rules.specs.Refusals.{refusal_in, plain, placed, first_bad_level, first_bad_entry}
use Rattle.held.specs.Held.{standing, held_of, open_answer, strikes, call_checks, remarked, call_answer}
use Rattle.text.specs.Bytes.{lines}
use Rattle.text.specs.Decimal.{decimal}
use Rattle.text.specs.Text.{malformed_line, plan_of, write_line}
use Rattle.text.specs.Reader.{read_refusal, filled}
use Rattle.writer.specs.Writer.{text_of}
use Rattle.std.specs.Prelude.{Result, Ok, Err}
use Rattle.rules.specs.declared.Refusal.{Refusal}
use Rattle.standing_text.specs.declared.Text.{Text}
use Rattle.standing_text.specs.StandingText.{
  sizes,
  text_in,
  text_refusal,
  text_answer,
  held_text,
  numbers_after,
  left_of,
  rewritten,
  runs_left,
  rewrite_refusal,
  rewrite_answer,
}

-- a text without the lost runs; the text of a plan that was opened, run 1 struck. The rooms hold a bytes and b numbers, each of them 9
data Question : Type 0 where
  without : List ℕ → List ℕ → ℕ → ℕ → Question
  handed : Plan → ℕ → ℕ → Question

-- the answer, and the two rooms afterwards
record Figure : Type 0 where
  answer : Result Text Refusal
  room : List ℕ
  numbers : List ℕ

abbrev is : Result Text Refusal → List ℕ → List ℕ → Figure
is answer room numbers = record { answer = answer; room = room; numbers = numbers }

abbrev after : Result Text Refusal → List ℕ → List ℕ → ℕ → ℕ → Figure
after r text numbers a b = is r (filled (refusal_in r) text (replicate a 9)) (filled (refusal_in r) numbers (replicate b 9))

ask : Question → Figure
unfolding read_refusal malformed_line plan_of first_bad_level first_bad_entry open_answer held_of standing call_answer call_checks remarked text_of write_line
    decimal text_refusal text_answer held_text left_of rewrite_refusal rewrite_answer
ask (without text lost a b) = after (rewrite_answer text lost a b) (rewritten text lost) (runs_left text lost) a b
ask (handed p a b) =
    let h = (call_answer (open_answer p).held (strikes 1)).held in
    let r = (held_text h a b).answer in
    is r (filled (refusal_in r) (text_in h) (replicate a 9)) (numbers_after h (refusal_in r) (replicate b 9))

-- refused, both rooms as they were
abbrev refused : ℕ → ℕ → ℕ → Figure
refused k a b = is (Err (plain k)) (replicate a 9) (replicate b 9)

abbrev example : List ℕ
example = lines ("2,3" ∷ "0,0" ∷ "0,1" ∷ "1,2" ∷ [])

abbrev example_plan : Plan
example_plan = plan (2 ∷ 3 ∷ []) (0 ∷ 0 ∷ 0 ∷ 1 ∷ 1 ∷ 2 ∷ [])

-- what is left without run 1
abbrev left : List ℕ
left = lines ("2,3" ∷ "0,0" ∷ "1,2" ∷ [])

record Row : Type 0 where
  question : Question
  figure : Figure

abbrev gives : Question → Figure → Row
gives q f = record { question = q; figure = f }

table : List Row
table =
    gives (without example (1 ∷ []) 13 3) (is (Ok (sizes left (0 ∷ 2 ∷ []))) (left ++ 9 ∷ []) (0 ∷ 2 ∷ 9 ∷ []))
    ∷ gives (without example [] 16 3) (is (Ok (sizes example (0 ∷ 1 ∷ 2 ∷ []))) example (0 ∷ 1 ∷ 2 ∷ []))
    -- no such run, a run lost twice, and three strikes, the last of a run that stands alone
    ∷ gives (without example (3 ∷ []) 16 3) (refused 8 16 3)
    ∷ gives (without example (1 ∷ 1 ∷ []) 16 3) (refused 9 16 3)
    ∷ gives (without example (0 ∷ 1 ∷ 2 ∷ []) 16 3) (refused 10 16 3)
    -- either room too small
    ∷ gives (without example (1 ∷ []) 11 3) (refused 7 11 3)
    ∷ gives (without example (1 ∷ []) 12 1) (refused 7 12 1)
    -- 14 comes before 8, of two refused strikes the first is named, and 7 comes last
    ∷ gives (without (lines ("2,3" ∷ "0" ∷ [])) (3 ∷ []) 16 3) (is (Err (placed 14 2 0)) (replicate 16 9) (replicate 3 9))
    ∷ gives (without example (1 ∷ 1 ∷ 3 ∷ []) 0 0) (refused 9 0 0)
    -- the same of a held plan; on the empty plan it is 10, ahead of 7
    ∷ gives (handed example_plan 12 2) (is (Ok (sizes left (0 ∷ 2 ∷ []))) left (0 ∷ 2 ∷ []))
    ∷ gives (handed example_plan 11 2) (refused 7 11 2)
    ∷ gives (handed example_plan 12 1) (refused 7 12 1)
    ∷ gives (handed (plan [] []) 0 0) (refused 10 0 0)
    ∷ []

standing-text-figures : map (λ x. ask x.question) table ≡ map (λ x. x.figure) table
unfolding ask table
standing-text-figures = refl
