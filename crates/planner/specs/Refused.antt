-- Document 01, "Refusal numbers": a refusal carries its number and places, and an answer that is refused is that refusal, with no other number
-- in it; but for a held plan, which comes back as it was.
use Rattle.std.specs.Prelude.{◌≡◌, List, ℕ, None, Err}
use Rattle.rules.specs.Plan.{Plan, every_run}
use Rattle.rules.specs.Refusals.{Check, of_plan}
use Rattle.sets.specs.Sets.{place_answer, set_answer}
use Rattle.survey.specs.Survey.{occurs_answer, alike_answer}
use Rattle.words.specs.Answers.{words_answer, word_answer, row_sums_answer, diagonal_answer}
use Rattle.counts.specs.Counts.{strength_answer}
use Rattle.set_words.specs.SetWords.{set_word_answer}
use Rattle.projection_tables.specs.Tables.{table_answer, table_rooms}
use Rattle.resolution.specs.Resolution.{resolution_answer, generalized_answer}
use Rattle.resolution.specs.Charts.{chart_answer, figure_answer}
use Rattle.tell.specs.Answer.{tell_answer}
use Rattle.compare.specs.Compare.{comparison_says, compare_answer}
use Rattle.advice.specs.Advice.{advice_answer, turns_answer}
use Rattle.held.specs.Held.{empty_held, open_answer, call_answer}
use Rattle.text.specs.Reader.{read_answer}
use Rattle.writer.specs.Writer.{write_answer}
use Rattle.standing_text.specs.StandingText.{held_text, rewrite_answer}
use Rattle.listing_lines.specs.Listing.{listing_answer, listing_room}
use Rattle.marked.specs.Marked.{marked_runs, of_marked}
use Rattle.tell_marked.specs.TellMarked.{marked_written, tell_room}
use Rattle.planner.specs.Calls.{
  plan_asked,
  runs_asked,
  begins,
  Question,
  words,
  row-sums,
  strength,
  resolution,
  generalized,
  charted,
  advice,
  word,
  figure,
  turns,
  set_word,
  tell,
  table,
  refusal_to,
  Call,
  asked,
  compared,
  levels-checked,
  plan-checked,
  diagonal,
  opened,
  written,
  level-occurs,
  first_alike,
  struck-or-reinstated,
  held-written,
  read,
  listed,
  refusal-listed,
  rewritten,
  tell-marked,
  table-marked,
  placed,
  set-at,
  refused_by,
}

-- the answer to a question is its refusal, and no number stands beside it; a table leaves the three rooms as they were
abbrev pub BlankAnswer : Plan → List ℕ → (List Check → List Check) → Question → Type 0
BlankAnswer p rs start words = words_answer p rs start ≡ Err (refusal_to p rs start words)
BlankAnswer p rs start row-sums = row_sums_answer p rs start ≡ Err (refusal_to p rs start row-sums)
BlankAnswer p rs start strength = strength_answer p rs start ≡ Err (refusal_to p rs start strength)
BlankAnswer p rs start resolution = resolution_answer p rs start ≡ Err (refusal_to p rs start resolution)
BlankAnswer p rs start generalized = generalized_answer p rs start ≡ Err (refusal_to p rs start generalized)
BlankAnswer p rs start charted = chart_answer p rs start ≡ Err (refusal_to p rs start charted)
BlankAnswer p rs start advice = advice_answer p rs start ≡ Err (refusal_to p rs start advice)
BlankAnswer p rs start (word j) = word_answer p rs start j ≡ Err (refusal_to p rs start (word j))
BlankAnswer p rs start (figure i) = figure_answer p rs start i ≡ Err (refusal_to p rs start (figure i))
BlankAnswer p rs start (turns k) = turns_answer p rs start k ≡ Err (refusal_to p rs start (turns k))
BlankAnswer p rs start (set_word f I) = set_word_answer p rs start f I ≡ Err (refusal_to p rs start (set_word f I))
BlankAnswer p rs start (tell i J) = tell_answer p rs start i J ≡ Err (refusal_to p rs start (tell i J))
BlankAnswer p rs start (table relative f rooms) =
    (table_answer p rs start relative f rooms ≡ Err (refusal_to p rs start (table relative f rooms)))
    × (table_rooms p rs start relative f rooms ≡ rooms)

-- nor does one beside that of any call. Three calls answer the refusal alone
abbrev pub Blank : Call → Type 0
Blank (asked s q) = BlankAnswer (plan_asked s) (runs_asked s) (begins s) q
Blank (compared s t) = (comparison_says (compare_answer (begins s) (plan_asked s) (runs_asked s) (begins t) (plan_asked t) (runs_asked t))).verdict ≡ None
Blank (levels-checked p) = Unit {0}
Blank (plan-checked p) = Unit {0}
Blank (diagonal p) = diagonal_answer p ≡ Err (refused_by (diagonal p))
Blank (opened p) = let a = open_answer p in (a.answer ≡ Err (refused_by (opened p))) × (a.held ≡ empty_held)
Blank (written p bytes) = write_answer p (every_run p) (of_plan p) bytes ≡ Err (refused_by (written p bytes))
Blank (level-occurs p i e) = occurs_answer p (every_run p) (of_plan p) i e ≡ Err (refused_by (level-occurs p i e))
Blank (first_alike p f) = alike_answer p (every_run p) (of_plan p) f ≡ Err (refused_by (first_alike p f))
Blank (struck-or-reinstated h c) = let a = call_answer h c in (a.answer ≡ Err (refused_by (struck-or-reinstated h c))) × (a.held ≡ h)
Blank (held-written h a b) = let t = held_text h a b in (t.answer ≡ Err (refused_by (held-written h a b))) × (t.held ≡ h)
Blank (read text room other) = read_answer text room other ≡ Err (refused_by (read text room other))
Blank (listed text room) = (listing_answer text room ≡ Err (refused_by (listed text room))) × (listing_room text room ≡ room)
Blank (refusal-listed text) = Unit {0}
Blank (rewritten text lost a b) = rewrite_answer text lost a b ≡ Err (refused_by (rewritten text lost a b))
Blank (tell-marked p marks a J room) =
    (marked_written p marks a J room ≡ Err (refused_by (tell-marked p marks a J room))) × (tell_room p marks a J room ≡ room)
Blank (table-marked p marks relative f rooms) = BlankAnswer p (marked_runs p marks) (of_marked p marks) (table relative f rooms)
Blank (placed m f I) = place_answer m f I ≡ Err (refused_by (placed m f I))
Blank (set-at m f k) = set_answer m f k ≡ Err (refused_by (set-at m f k))
