-- A question to what is left of a text, as it is printed.
use Rattle.std.specs.Prelude.{List, ℕ}
use Rattle.rules.specs.declared.Refusal.{Refusal}
use Rattle.rules.specs.Refusals.{refusal_in, unless, or_else}
use Rattle.held.specs.declared.Held.{Held}
use Rattle.lines.specs.Lines.{refusal_line}
use Rattle.standing_text.specs.StandingText.{read_left}

-- what refuses the question to a held plan, and the lines of its answer
module _ (refusal_of : Held → Refusal) (lines_of : Held → List ℕ) where
  -- the reader's refusal or that of the first refused strike; then that of the question
  abbrev pub printed_refusal : List ℕ → List ℕ → Refusal
  printed_refusal text lost = let left = read_left text lost in or_else (refusal_in left.answer) (refusal_of left.held)

  -- the one line of a refusal, or the lines of the answer
  abbrev pub printed : List ℕ → List ℕ → List ℕ
  printed text lost = let r = printed_refusal text lost in unless r (refusal_line r) (lines_of (read_left text lost).held)
