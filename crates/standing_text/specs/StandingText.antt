-- Request #101: the text of the runs that stand, with their original numbers; and a text rewritten without the runs that were lost.
use Rattle.std.specs.Prelude.{List, [], ◌∷◌, ℕ, length, Result, Ok, Err, ⊤}
use Rattle.rules.specs.declared.Refusal.{Refusal}
use Rattle.rules.specs.Plan.{most_columns, most_entries}
use Rattle.rules.specs.Refusals.{refusal, answered, refusal_in, unless, or_else, bad_room}
use Rattle.held.specs.declared.Held.{Held}
use Rattle.held.specs.declared.Answered.{Answered}
use Rattle.held.specs.Held.{empty_held, plan_in, standing_in, open_answer, strikes, call_answer, of_standing}
use Rattle.text.specs.Text.{plan_of}
use Rattle.text.specs.Reader.{read_refusal, filled}
use Rattle.writer.specs.Writer.{text_of}
use Rattle.standing_text.specs.declared.Text.{Text}

-- the numbers of bytes and of runs put into the rooms
abbrev pub sizes : List ℕ → List ℕ → Text
sizes text numbers = record { bytes = length text; runs = length numbers }

-- ---- the text of a held plan

-- the levels, then each run that stands
abbrev pub text_in : Held → List ℕ
text_in h = text_of (plan_in h) (standing_in h)

-- 10 where no run stands, and 7 where a room is too small. The rooms hold a bytes and b numbers
unfoldable pub text_refusal : Held → ℕ → ℕ → Refusal
text_refusal h a b = refusal (of_standing h (bad_room (length (text_in h)) a ∷ bad_room (length (standing_in h)) b ∷ []))

unfoldable pub text_answer : Held → ℕ → ℕ → Result Text Refusal
text_answer h a b = answered (text_refusal h a b) (sizes (text_in h) (standing_in h))

unfoldable pub held_text : Held → ℕ → ℕ → Answered Text
held_text h a b = record { held = h; answer = text_answer h a b }

-- the room for the numbers afterwards: the original numbers of the standing runs, and what was there past them; a refusal leaves it as it was
abbrev pub numbers_after : Held → Refusal → List ℕ → List ℕ
numbers_after h r room = filled r (standing_in h) room

-- ---- a text without the lost runs

-- the runs are struck one after the other; the first strike that is refused is the answer
abbrev pub strikes_answer : Held → List ℕ → Answered ⊤
strikes_answer h [] = record { held = h; answer = Ok tt }
strikes_answer h (f ∷ fs) = let a = call_answer h (strikes f) in unless (refusal_in a.answer) a (strikes_answer a.held fs)

-- the plan that the text holds, without the lost runs
unfoldable pub left_of : List ℕ → List ℕ → Answered ⊤
left_of text lost = strikes_answer (open_answer (plan_of text)).held lost

-- the same, behind the reader's refusal, whose rooms hold every accepted plan: a text that it refuses leaves the empty plan
unfoldable pub read_left : List ℕ → List ℕ → Answered ⊤
read_left text lost =
    let r = read_refusal text most_columns most_entries in unless r (record { held = empty_held; answer = Err r }) (left_of text lost)

-- its text, and the original numbers of the runs left
abbrev pub rewritten : List ℕ → List ℕ → List ℕ
rewritten text lost = text_in (left_of text lost).held

abbrev pub runs_left : List ℕ → List ℕ → List ℕ
runs_left text lost = standing_in (left_of text lost).held

-- the reader's refusal, its rooms holding every accepted plan; then that of the first refused strike; then that of the text
unfoldable pub rewrite_refusal : List ℕ → List ℕ → ℕ → ℕ → Refusal
rewrite_refusal text lost a b =
    let left = left_of text lost in
    or_else (read_refusal text most_columns most_entries) (or_else (refusal_in left.answer) (text_refusal left.held a b))

unfoldable pub rewrite_answer : List ℕ → List ℕ → ℕ → ℕ → Result Text Refusal
rewrite_answer text lost a b = answered (rewrite_refusal text lost a b) (sizes (rewritten text lost) (runs_left text lost))
