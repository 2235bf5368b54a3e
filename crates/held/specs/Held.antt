-- Document 01, "The held plan": what is held, opening, strike and reinstatement.
use Rattle.std.specs.Prelude.{◌≡◌, Bool, true, false, not, List, [], ◌∷◌, ℕ, suc, ◌*◌, ◌<◌, length, get_or, set, take, replicate}
use Rattle.exact.specs.Lists.{filled_to}
use Rattle.rules.specs.Plan.{Plan, plan, columns, runs, most_columns, most_runs, most_entries}
use Rattle.rules.specs.Refusals.{Check, refusal, answered, unless, of_held, plan_checks, bad_place, already, too_few}
use Rattle.plan.specs.Good.{Good}
use Rattle.words.specs.Answers.{word_list, zeros}
use Rattle.held.specs.declared.Held.{Held}
use Rattle.held.specs.declared.Answered.{Answered}

-- the numbers of the runs whose mark is set, the first mark being that of run a
abbrev pub standing_from : ℕ → List Bool → List ℕ
standing_from a [] = []
standing_from a (true ∷ marks) = a ∷ standing_from (suc a) marks
standing_from a (false ∷ marks) = standing_from (suc a) marks

-- the runs that stand, in number order, by their original numbers
unfoldable pub standing : List Bool → List ℕ
standing marks = standing_from 0 marks

-- ---- what is held

-- the plan held with these marks: its own copy of levels and entries, and the words of the standing runs
unfoldable pub held_of : Plan → List Bool → Held
held_of p marks = record {
  columns = columns p;
  runs = runs p;
  levels = filled_to most_columns 0 p.levels;
  entries = filled_to most_entries 0 p.table;
  marks = filled_to most_runs false marks;
  words = word_list p (standing marks);
}

-- a plan without columns or runs, every number in it zero
abbrev pub empty_held : Held
empty_held = record {
  columns = 0;
  runs = 0;
  levels = replicate most_columns 0;
  entries = replicate most_entries 0;
  marks = replicate most_runs false;
  words = zeros;
}

-- what an opening or a call hands back: an accepted plan with its marks and at least one run standing, or the empty plan
pub data IsHeld : Held → Type 0 where
  none-held : IsHeld empty_held
  held : (p : Plan) (marks : List Bool) → Good p → length marks ≡ runs p → 0 < length (standing marks) → IsHeld (held_of p marks)

-- the marks of its runs, the plan, and the runs that stand
abbrev pub marks_in : Held → List Bool
marks_in h = take h.runs h.marks

abbrev pub plan_in : Held → Plan
plan_in h = plan (take h.columns h.levels) (take (h.runs * h.columns) h.entries)

abbrev pub standing_in : Held → List ℕ
standing_in h = standing (marks_in h)

-- how a call that names no run begins: where none stands the answer is 10, ahead of every other check
abbrev pub of_standing : Held → List Check → List Check
of_standing h checks = of_held (standing_in h) checks

-- ---- opening: the plan is checked; all runs stand

unfoldable pub open_answer : Plan → Answered Unit
open_answer p =
    let r = refusal (plan_checks p) in record { held = unless r empty_held (held_of p (replicate (runs p) true)); answer = answered r tt }

-- ---- strike and reinstatement

pub data Call : Type 0 where
  strikes : ℕ → Call
  reinstates : ℕ → Call

-- the run that the call names
abbrev pub run_of : Call → ℕ
run_of (strikes f) = f
run_of (reinstates f) = f

-- whether it stands afterwards
abbrev pub stands : Call → Bool
stands (strikes f) = false
stands (reinstates f) = true

-- a strike needs a standing run and two or more standing; a reinstatement needs a struck run
unfoldable pub call_checks : List Bool → Call → List Check
call_checks marks (strikes f) =
    bad_place (length marks) f ∷ already (not (get_or marks f false)) ∷ too_few 2 (length (standing marks)) ∷ []
call_checks marks (reinstates f) = bad_place (length marks) f ∷ already (get_or marks f false) ∷ []

-- run f marked, and the words of the runs that then stand
unfoldable pub remarked : Held → ℕ → Bool → Held
remarked h f b = record {
  columns = h.columns;
  runs = h.runs;
  levels = h.levels;
  entries = h.entries;
  marks = set h.marks f b;
  words = word_list (plan_in h) (standing (set (marks_in h) f b));
}

-- a refused call hands the plan back as it was
unfoldable pub call_answer : Held → Call → Answered Unit
call_answer h c =
    let r = refusal (call_checks (marks_in h) c) in record { held = unless r h (remarked h (run_of c) (stands c)); answer = answered r tt }
