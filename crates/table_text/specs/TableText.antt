-- The projection table of a plan text without the runs that were lost: what refuses it, and its lines.
use Rattle.std.specs.Prelude.{Bool, List, ℕ}
use Rattle.rules.specs.declared.Refusal.{Refusal}
use Rattle.rules.specs.Refusals.{refusal}
use Rattle.held.specs.declared.Held.{Held}
use Rattle.held.specs.Held.{plan_in, standing_in, of_standing}
use Rattle.standing_text.specs.Printed.{printed_refusal, printed}
use Rattle.table_lines.specs.TableLines.{table_lines, print_checks, lines_beside}

-- ---- of a held plan: 10 where no run stands, then 6 and 16

abbrev pub held_refusal : Bool → ℕ → Held → Refusal
held_refusal relative f h = refusal (of_standing h (print_checks (plan_in h) (standing_in h) relative f))

-- the lines of its standing runs
abbrev pub held_answer : Bool → ℕ → Held → List ℕ
held_answer relative f h = table_lines (plan_in h) (standing_in h) relative f

abbrev pub held_lines : Bool → ℕ → Held → Refusal → List ℕ
held_lines relative f h r = lines_beside (plan_in h) (standing_in h) relative f r

-- ---- of a text without the lost runs

-- the reader's refusal or that of the first refused strike; then that of the table
unfoldable pub table_refusal : List ℕ → List ℕ → Bool → ℕ → Refusal
table_refusal text lost relative f = printed_refusal (held_refusal relative f) (held_answer relative f) text lost

-- what is printed
unfoldable pub table_text : List ℕ → List ℕ → Bool → ℕ → List ℕ
table_text text lost relative f = printed (held_refusal relative f) (held_answer relative f) text lost
