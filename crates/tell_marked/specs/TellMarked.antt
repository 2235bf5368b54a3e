-- The assessor's question of a C program: a plan, a mark for each run, a column and others; its lines go into a lent room.
use Rattle.std.specs.Prelude.{List, [], ◌∷◌, ℕ, ℤ, length, Result}
use Rattle.exact.specs.Lists.{into}
use Rattle.rules.specs.declared.Refusal.{Refusal}
use Rattle.rules.specs.Plan.{Plan, columns}
use Rattle.rules.specs.Refusals.{Check, refusal, answered, unless, number_or, bad_room}
use Rattle.marked.specs.Marked.{marked_runs, of_marked}
use Rattle.tell.specs.Answer.{bad_asked}
use Rattle.text.specs.Bytes.{sized}
use Rattle.tell_lines.specs.TellLines.{tell_lines}

module _ (p : Plan) (marks : List ℕ) (a : ℕ) (J : List ℕ) where
  -- the lines of the runs that stand
  abbrev pub marked_lines : List ℕ
  marked_lines = tell_lines p (marked_runs p marks) a J

  -- how a call with marks begins, then 8 for the columns, and 7 where the room is too small
  abbrev pub marked_checks : List ℕ → List Check
  marked_checks room = of_marked p marks (bad_asked (columns p) a J ∷ bad_room (length marked_lines) (length room) ∷ [])

  abbrev pub marked_refusal : List ℕ → Refusal
  marked_refusal room = refusal (marked_checks room)

  -- the number of bytes put into the room, or the refusal
  unfoldable pub marked_written : List ℕ → Result ℕ Refusal
  marked_written room = answered (marked_refusal room) (length marked_lines)

  -- what a C program gets: the number of bytes, or the refusal's number negated
  unfoldable pub tell_number : List ℕ → ℤ
  tell_number room = number_or (sized (marked_written room))

  -- the room afterwards: the lines in front, and in a refusal as it was
  unfoldable pub tell_room : List ℕ → List ℕ
  tell_room room = unless (marked_refusal room) room (into marked_lines room)
