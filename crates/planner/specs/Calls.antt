-- Document 01, "Refusal numbers": every call of the library, with the checks that it makes and the refusal in its answer.
-- A call goes through lists of checks, mostly one; it is refused by the first list in which a check fails.
use Rattle.std.specs.Prelude.{Bool, List, [], ◌∷◌, ◌++◌, ℕ, length}
use Rattle.rules.specs.declared.Refusal.{Refusal}
use Rattle.rules.specs.Plan.{Plan, columns, runs, level, every_run, most_columns, most_entries}
use Rattle.rules.specs.Refusals.{Check, refusal, refusal_in, accepted, or_else, level_checks, plan_checks, of_plan}
use Rattle.rules.specs.Refusals.{bad_place, bad_length, bad_room, too_long, malformed}
use Rattle.sets.specs.Sets.{place_checks, place_answer, set_checks, set_answer}
use Rattle.survey.specs.Survey.{occurs_answer, alike_answer}
use Rattle.words.specs.Answers.{words_answer, word_answer, row_sums_answer, diagonal_answer}
use Rattle.counts.specs.Counts.{strength_answer}
use Rattle.set_words.specs.SetWords.{set_word_checks, set_word_answer}
use Rattle.projection_tables.specs.Tables.{Rooms, table_checks, table_answer}
use Rattle.resolution.specs.Resolution.{resolution_checks, resolution_answer, generalized_answer}
use Rattle.resolution.specs.Charts.{column_checks, chart_answer, figure_answer}
use Rattle.tell.specs.Answer.{tell_checks, tell_answer}
use Rattle.compare.specs.Compare.{comparison_says, compare_answer}
use Rattle.advice.specs.Advice.{advice_checks, advice_answer, turns_checks, turns_answer}
use Rattle.held.specs.declared.Held.{Held}
use Rattle.held.specs.Held.{marks_in, plan_in, standing_in, of_standing, open_answer, strikes, call_checks, call_answer}
use Rattle.held.specs.Held as held
use Rattle.text.specs.Text.{malformed_line, plan_of}
use Rattle.text.specs.Reader.{room_checks, read_answer}
use Rattle.writer.specs.Writer.{bad_text_room, write_answer}
use Rattle.standing_text.specs.StandingText.{text_in, held_text, left_of, rewrite_answer}
use Rattle.listing_lines.specs.Listing.{listing_checks, listing, listing_answer}
use Rattle.marked.specs.Marked.{marked_runs, of_marked}
use Rattle.tell_marked.specs.TellMarked.{marked_checks, marked_written}

-- ---- questions

-- what a question is asked of: a plan, or the standing runs of a held plan
pub data Source : Type 0 where
  of-plan : Plan → Source
  of-held : Held → Source

abbrev pub plan_asked : Source → Plan
plan_asked (of-plan p) = p
plan_asked (of-held h) = plan_in h

abbrev pub runs_asked : Source → List ℕ
runs_asked (of-plan p) = every_run p
runs_asked (of-held h) = standing_in h

-- how a call on it begins
abbrev pub begins : Source → List Check → List Check
begins (of-plan p) checks = of_plan p checks
begins (of-held h) checks = of_standing h checks

pub data Question : Type 0 where
  words row-sums strength resolution generalized charted advice : Question
  word figure turns : ℕ → Question
  set_word tell : ℕ → List ℕ → Question
  table : Bool → ℕ → Rooms → Question

-- its own checks
abbrev pub own : Plan → List ℕ → Question → List Check
own p rs words = []
own p rs row-sums = []
own p rs strength = []
own p rs resolution = resolution_checks p rs
own p rs generalized = resolution_checks p rs
own p rs charted = resolution_checks p rs
own p rs advice = advice_checks rs
own p rs (word j) = bad_length (columns p) j ∷ []
own p rs (figure i) = column_checks p rs i
own p rs (turns k) = turns_checks k rs
own p rs (set_word f I) = set_word_checks p f I
own p rs (tell i J) = tell_checks p i J
own p rs (table relative f rooms) = table_checks p rs relative f rooms

-- the refusal in its answer
abbrev pub refusal_to : Plan → List ℕ → (List Check → List Check) → Question → Refusal
refusal_to p rs start words = refusal_in (words_answer p rs start)
refusal_to p rs start row-sums = refusal_in (row_sums_answer p rs start)
refusal_to p rs start strength = refusal_in (strength_answer p rs start)
refusal_to p rs start resolution = refusal_in (resolution_answer p rs start)
refusal_to p rs start generalized = refusal_in (generalized_answer p rs start)
refusal_to p rs start charted = refusal_in (chart_answer p rs start)
refusal_to p rs start advice = refusal_in (advice_answer p rs start)
refusal_to p rs start (word j) = refusal_in (word_answer p rs start j)
refusal_to p rs start (figure i) = refusal_in (figure_answer p rs start i)
refusal_to p rs start (turns k) = refusal_in (turns_answer p rs start k)
refusal_to p rs start (set_word f I) = refusal_in (set_word_answer p rs start f I)
refusal_to p rs start (tell i J) = refusal_in (tell_answer p rs start i J)
refusal_to p rs start (table relative f rooms) = refusal_in (table_answer p rs start relative f rooms)

-- ---- calls

pub data Call : Type 0 where
  asked : Source → Question → Call
  compared : Source → Source → Call
  -- of levels, and of a plan
  levels-checked plan-checked diagonal opened : Plan → Call
  written : Plan → ℕ → Call
  -- whether a level occurs, and the first run alike
  level-occurs : Plan → ℕ → ℕ → Call
  first_alike : Plan → ℕ → Call
  -- of a held plan
  struck-or-reinstated : Held → held.Call → Call
  held-written : Held → ℕ → ℕ → Call
  -- of a text; the listing of a text that is refused is the line of that refusal
  read : List ℕ → List ℕ → List ℕ → Call
  listed : List ℕ → List ℕ → Call
  refusal-listed : List ℕ → Call
  rewritten : List ℕ → List ℕ → ℕ → ℕ → Call
  -- of a plan with a mark for each run
  tell-marked : Plan → List ℕ → ℕ → List ℕ → List ℕ → Call
  table-marked : Plan → List ℕ → Bool → ℕ → Rooms → Call
  -- of sets of columns
  placed : ℕ → ℕ → List ℕ → Call
  set-at : ℕ → ℕ → ℕ → Call

-- the reader's checks, with rooms of a and b bytes
abbrev pub read_checks : List ℕ → ℕ → ℕ → List Check
read_checks text a b = let p = plan_of text in too_long (length text) ∷ malformed (malformed_line text) ∷ of_plan p (room_checks p a b)

-- those of the strikes, each on the plan that the one before it left
abbrev pub strike_checks : Held → List ℕ → List (List Check)
strike_checks h [] = []
strike_checks h (f ∷ fs) = call_checks (marks_in h) (strikes f) ∷ strike_checks (call_answer h (strikes f)).held fs

-- those of the text of a held plan, with rooms of a bytes and b numbers
abbrev pub rooms_of : Held → ℕ → ℕ → List Check
rooms_of h a b = bad_room (length (text_in h)) a ∷ bad_room (length (standing_in h)) b ∷ []

abbrev pub text_checks : Held → ℕ → ℕ → List Check
text_checks h a b = of_standing h (rooms_of h a b)

-- the lists of checks that a call goes through
abbrev pub checks_of : Call → List (List Check)
checks_of (asked s q) = begins s (own (plan_asked s) (runs_asked s) q) ∷ []
checks_of (compared s t) = begins s [] ∷ begins t [] ∷ []
checks_of (levels-checked p) = level_checks p ∷ []
checks_of (plan-checked p) = plan_checks p ∷ []
checks_of (diagonal p) = level_checks p ∷ []
checks_of (opened p) = plan_checks p ∷ []
checks_of (written p bytes) = of_plan p (bad_text_room p (every_run p) bytes ∷ []) ∷ []
checks_of (level-occurs p i e) = of_plan p (bad_place (columns p) i ∷ bad_place (level p i) e ∷ []) ∷ []
checks_of (first_alike p f) = of_plan p (bad_place (runs p) f ∷ []) ∷ []
checks_of (struck-or-reinstated h c) = call_checks (marks_in h) c ∷ []
checks_of (held-written h a b) = text_checks h a b ∷ []
checks_of (read text room other) = read_checks text (length room) (length other) ∷ []
checks_of (listed text room) = (bad_room (length (listing text)) (length room) ∷ []) ∷ []
checks_of (refusal-listed text) = listing_checks text ∷ []
checks_of (rewritten text lost a b) =
    read_checks text most_columns most_entries ∷ strike_checks (open_answer (plan_of text)).held lost ++ text_checks (left_of text lost).held a b ∷ []
checks_of (tell-marked p marks a J room) = marked_checks p marks a J room ∷ []
checks_of (table-marked p marks relative f rooms) = of_marked p marks (table_checks p (marked_runs p marks) relative f rooms) ∷ []
checks_of (placed m f I) = place_checks m f I ∷ []
checks_of (set-at m f k) = set_checks m f k ∷ []

-- the refusal in the answer of a call
abbrev pub refused_by : Call → Refusal
refused_by (asked s q) = refusal_to (plan_asked s) (runs_asked s) (begins s) q
refused_by (compared s t) = (comparison_says (compare_answer (begins s) (plan_asked s) (runs_asked s) (begins t) (plan_asked t) (runs_asked t))).refused
refused_by (levels-checked p) = refusal (level_checks p)
refused_by (plan-checked p) = refusal (plan_checks p)
refused_by (diagonal p) = refusal_in (diagonal_answer p)
refused_by (opened p) = refusal_in (open_answer p).answer
refused_by (written p bytes) = refusal_in (write_answer p (every_run p) (of_plan p) bytes)
refused_by (level-occurs p i e) = refusal_in (occurs_answer p (every_run p) (of_plan p) i e)
refused_by (first_alike p f) = refusal_in (alike_answer p (every_run p) (of_plan p) f)
refused_by (struck-or-reinstated h c) = refusal_in (call_answer h c).answer
refused_by (held-written h a b) = refusal_in (held_text h a b).answer
refused_by (read text room other) = refusal_in (read_answer text room other)
refused_by (listed text room) = refusal_in (listing_answer text room)
refused_by (refusal-listed text) = refusal (listing_checks text)
refused_by (rewritten text lost a b) = refusal_in (rewrite_answer text lost a b)
refused_by (tell-marked p marks a J room) = refusal_in (marked_written p marks a J room)
refused_by (table-marked p marks relative f rooms) = refusal_in (table_answer p (marked_runs p marks) (of_marked p marks) relative f rooms)
refused_by (placed m f I) = refusal_in (place_answer m f I)
refused_by (set-at m f k) = refusal_in (set_answer m f k)

-- the refusal of the first list that refuses, and that of the last where none before it does
abbrev pub in_turn : List (List Check) → Refusal
in_turn [] = accepted
in_turn (checks ∷ []) = refusal checks
in_turn (checks ∷ more ∷ others) = or_else (refusal checks) (in_turn (more ∷ others))
