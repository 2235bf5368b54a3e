-- What a C program gets: the version, the numbers of answers, and a table of the runs that stand.
use Rattle.std.specs.Prelude.{Bool, not, List, ℕ, eqb, ℤ, Result, Ok, Err}
use Rattle.rules.specs.declared.Refusal.{Refusal}
use Rattle.rules.specs.Plan.{Plan}
use Rattle.rules.specs.Refusals.{number_or}
use Rattle.projection_tables.specs.Tables.{Rooms, table_answer, table_rooms}
use Rattle.text.specs.Bytes.{sized}
use Rattle.standing_text.specs.declared.Text.{Text}
use Rattle.marked.specs.Marked.{marked_runs, of_marked}

-- 10000 times the major number, 100 times the minor one, and the patch: 0.11.0
abbrev pub version : ℕ
version = 1100

-- the number of bytes of a text that was written
abbrev pub bytes_in : Result Text Refusal → Result ℕ Refusal
bytes_in (Ok text) = Ok text.bytes
bytes_in (Err r) = Err r

-- whether a C program asks for the relative table: any number but 0
abbrev pub is_relative : ℕ → Bool
is_relative b = not (eqb b 0)

module _ (p : Plan) (marks : List ℕ) (relative f : ℕ) (rooms : Rooms) where
  -- the number of lines, or the refusal's number negated
  abbrev pub table_number : ℤ
  table_number = number_or (sized (table_answer p (marked_runs p marks) (of_marked p marks) (is_relative relative) f rooms))

  -- the rooms afterwards
  abbrev pub table_filled : Rooms
  table_filled = table_rooms p (marked_runs p marks) (of_marked p marks) (is_relative relative) f rooms
