-- The assessor's question to a plan text without the runs that were lost: what refuses it, and its lines.
use Rattle.std.specs.Prelude.{List, ℕ}
use Rattle.rules.specs.declared.Refusal.{Refusal}
use Rattle.rules.specs.Refusals.{refusal}
use Rattle.held.specs.declared.Held.{Held}
use Rattle.held.specs.Held.{plan_in, standing_in, of_standing}
use Rattle.standing_text.specs.Printed.{printed_refusal, printed}
use Rattle.tell.specs.Answer.{tell_checks}
use Rattle.tell_lines.specs.TellLines.{tell_lines, lines_beside}

-- ---- of a held plan: 10 where no run stands, then 8

abbrev pub held_refusal : ℕ → List ℕ → Held → Refusal
held_refusal a J h = refusal (of_standing h (tell_checks (plan_in h) a J))

-- the lines of its standing runs, by their original numbers
abbrev pub held_answer : ℕ → List ℕ → Held → List ℕ
held_answer a J h = tell_lines (plan_in h) (standing_in h) a J

abbrev pub held_lines : ℕ → List ℕ → Held → Refusal → List ℕ
held_lines a J h r = lines_beside (plan_in h) (standing_in h) a J r

-- ---- of a text without the lost runs

-- the reader's refusal or that of the first refused strike; then that of the question
unfoldable pub tell_refusal : List ℕ → List ℕ → ℕ → List ℕ → Refusal
tell_refusal text lost a J = printed_refusal (held_refusal a J) (held_answer a J) text lost

-- what is printed
unfoldable pub tell_text : List ℕ → List ℕ → ℕ → List ℕ → List ℕ
tell_text text lost a J = printed (held_refusal a J) (held_answer a J) text lost
