-- What the reader's parts find from a place of the text on.
use Rattle.std.specs.Prelude.{◌≡◌, cond, List, [], ◌∷◌, ◌++◌, ℕ, ◌+◌, ◌-◌, ◌*◌, ◌≤◌, eqb, length, get_or, take, drop, Option, Some, None, Result, IfSome, IfOk}
use Rattle.rules.specs.declared.Refusal.{Refusal}
use Rattle.rules.specs.Plan.{Plan, columns}
use Rattle.rules.specs.Refusals.{refusal, answered, malformed}
use Rattle.text.specs.declared.reading.Number.{Number}
use Rattle.text.specs.declared.reading.Line.{Line}
use Rattle.text.specs.declared.reading.Lines.{Lines}
use Rattle.text.specs.Bytes.{put_at}
use Rattle.text.specs.Text.{split, is_digit, is_line, count, numbers, malformed_line, plan_of}

-- ---- a number

-- the number that begins with byte a, byte b after it
abbrev pub number_of : ℕ → ℕ → Option Number
number_of a b =
    cond (is_digit a)
    (cond (is_digit b) (cond (eqb a 48) None (Some (record { value = (a - 48) * 10 + (b - 48); size = 2 }))) (Some (record { value = a - 48; size = 1 })))
    None

-- the number in front of these bytes, and how many bytes it takes
unfoldable pub number_at : List ℕ → Option Number
number_at bytes = number_of (get_or bytes 0 0) (get_or bytes 1 0)

-- ---- a line

-- the line in front of these pieces, its first byte at place `at`, k numbers before it: where the next line begins, and how many numbers
-- there are then. None is malformed, or not ended
abbrev pub line_from : ℕ → ℕ → List (List ℕ) → Option Line
line_from at k [] = None
line_from at k (rest ∷ []) = None
line_from at k (line ∷ next ∷ pieces) = cond (is_line line) (Some (record { next = at + length line + 1; count = k + count line })) None

abbrev pub front_numbers : List (List ℕ) → List ℕ
front_numbers [] = []
front_numbers (line ∷ pieces) = numbers line

-- a room for the numbers of a text from place `at` on, k of them in it: each number takes two bytes or more
pub record Roomy (text : List ℕ) (at : ℕ) (room : List ℕ) (k : ℕ) : Type 0 where
  pub inside : at ≤ length text
  pub ample : length text + 2 * k ≤ 2 * length room + at

-- a line was read: its numbers stand in the room from place k on, and those of the later lines fit too, unless it is malformed
pub record LineRead (text : List ℕ) (at : ℕ) (room : List ℕ) (k : ℕ) (r : Option Line) (after : List ℕ) : Type 0 where
  pub answer : r ≡ line_from at k (split 10 (drop at text))
  pub stored : IfSome r (λ line. after ≡ put_at k (front_numbers (split 10 (drop at text))) room)
  pub left : IfSome r (λ line. Roomy text line.next room line.count)

-- ---- the lines

-- the number of columns, and that of all numbers of a text
abbrev pub counted : Plan → Lines
counted p = record { columns = columns p; count = columns p + length p.table }

-- a text was read: its levels and entries stand in front of the room, unless a line is malformed
pub record TextRead (text : List ℕ) (r : Result Lines Refusal) (after : List ℕ) : Type 0 where
  pub answer : r ≡ answered (refusal (malformed (malformed_line text) ∷ [])) (counted (plan_of text))
  pub within : IfOk r (λ lines. lines.count ≤ length after)
  pub stored : IfOk r (λ lines. take lines.count after ≡ (plan_of text).levels ++ (plan_of text).table)
