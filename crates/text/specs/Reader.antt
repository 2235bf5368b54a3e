-- Document 01, "Plan text and the listing": the reader's refusals and answers.
use Rattle.std.specs.Prelude.{List, [], ◌∷◌, ℕ, length, Result}
use Rattle.exact.specs.Lists.{into}
use Rattle.rules.specs.declared.Refusal.{Refusal}
use Rattle.rules.specs.Plan.{Plan, columns, runs}
use Rattle.rules.specs.Refusals.{Check, refusal, answered, unless, too_long, malformed, bad_room, of_plan}
use Rattle.text.specs.declared.Sizes.{Sizes}
use Rattle.text.specs.Text.{malformed_line, plan_of}

-- what a plan that was read is refused by: 1 to 5, and 7 where a room is too small. The rooms hold a levels and b entries
abbrev pub room_checks : Plan → ℕ → ℕ → List Check
room_checks p a b = bad_room (columns p) a ∷ bad_room (length p.table) b ∷ []

unfoldable pub plan_refusal : Plan → ℕ → ℕ → Refusal
plan_refusal p a b = refusal (of_plan p (room_checks p a b))

-- what a text is refused by: 13 and 14 besides
unfoldable pub read_refusal : List ℕ → ℕ → ℕ → Refusal
read_refusal text a b = refusal (too_long (length text) ∷ malformed (malformed_line text) ∷ of_plan (plan_of text) (room_checks (plan_of text) a b))

-- the numbers of columns and runs
abbrev pub sizes : Plan → Sizes
sizes p = record { columns = columns p; runs = runs p }

-- with these rooms for the levels and for the table
abbrev pub plan_answer : Plan → List ℕ → List ℕ → Result Sizes Refusal
plan_answer p levels table = answered (plan_refusal p (length levels) (length table)) (sizes p)

abbrev pub read_answer : List ℕ → List ℕ → List ℕ → Result Sizes Refusal
read_answer text levels table = answered (read_refusal text (length levels) (length table)) (sizes (plan_of text))

-- a lent room afterwards: the numbers read, and what was there past them; a refusal leaves it as it was
abbrev pub filled : Refusal → List ℕ → List ℕ → List ℕ
filled r numbers room = unless r room (into numbers room)
