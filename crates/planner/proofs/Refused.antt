-- An answer that is refused is its refusal, with no other number in it; and the plan of a refused opening refuses every call.
use Rattle.exact.proofs.Ground.{◌≡◌, ◌∙◌, ap, refl, ℕ}
use Rattle.std.specs.Prelude.{Result, Ok, Err, Option, None}
use Rattle.exact.specs.declared.fractions.Verdict.{Verdict}
use Rattle.rules.specs.declared.Refusal.{Refusal}
use Rattle.rules.specs.Refusals.{refusal_in, unless, plain}
use Rattle.rules.proofs.Ranges.{unless-refused}
use Rattle.words.specs.Answers.{words_answer, word_answer, row_sums_answer}
use Rattle.counts.specs.Counts.{strength_answer}
use Rattle.set_words.specs.SetWords.{set_word_answer}
use Rattle.projection_tables.specs.Tables.{table_answer, table_rooms}
use Rattle.resolution.specs.Resolution.{resolution_answer, generalized_answer}
use Rattle.resolution.specs.Charts.{chart_answer, figure_answer}
use Rattle.compare.specs.declared.RefusedPlan.{RefusedPlan}
use Rattle.tell.specs.Answer.{tell_answer}
use Rattle.compare.specs.Compare.{comparison_says, compare_answer}
use Rattle.advice.specs.Advice.{advice_answer, turns_answer}
use Rattle.held.specs.declared.Answered.{Answered}
use Rattle.held.specs.Held.{standing, empty_held, open_answer, call_answer}
use Rattle.held.specs.Held as held
use Rattle.held.proofs.Marks.{call-empty}
use Rattle.standing_text.specs.StandingText.{text_refusal, text_answer, held_text}
use Rattle.listing_lines.specs.Listing.{listing_room}
use Rattle.tell_marked.specs.TellMarked.{tell_room}
use Rattle.planner.specs.Refused.{Blank}
use Rattle.planner.specs.Calls.{
  of-held,
  plan_asked,
  runs_asked,
  begins,
  Question,
  words,
  row-sums,
  strength,
  resolution,
  generalized,
  charted,
  advice,
  word,
  figure,
  turns,
  set_word,
  tell,
  table,
  Call,
  asked,
  compared,
  levels-checked,
  plan-checked,
  diagonal,
  opened,
  written,
  level-occurs,
  first_alike,
  struck-or-reinstated,
  held-written,
  read,
  listed,
  refusal-listed,
  rewritten,
  tell-marked,
  table-marked,
  placed,
  set-at,
  checks_of,
  refused_by,
  in_turn,
}
use Rattle.planner.proofs.Calls.{call-refusal}

-- an answer that is refused is its refusal
only-refusal : {A : Type 0} (answer : Result A Refusal) → ¬ ((refusal_in answer).number ≡ 0) → answer ≡ Err (refusal_in answer)
only-refusal (Ok value) n = absurd (n refl)
only-refusal (Err r) n = refl

no-verdict : (x : Result (Option Verdict) RefusedPlan) → ¬ ((comparison_says x).refused.number ≡ 0) → (comparison_says x).verdict ≡ None
no-verdict (Ok verdict) n = absurd (n refl)
no-verdict (Err x) n = refl

-- so is what stands beside it by its checks
left-blank : {A : Type 0} (c : Call) → ¬ ((refused_by c).number ≡ 0) → (blank value : A) → unless (in_turn (checks_of c)) blank value ≡ blank
left-blank c n blank value = unless-refused (in_turn (checks_of c)) blank value (λ z. n (ap (λ r. r.number) (call-refusal c) ∙ z))

pub refused-blank : (c : Call) → ¬ ((refused_by c).number ≡ 0) → Blank c
unfolding table_rooms tell_room open_answer call_answer held_text listing_room
refused-blank (asked s words) n = only-refusal _ n
refused-blank (asked s row-sums) n = only-refusal _ n
refused-blank (asked s strength) n = only-refusal _ n
refused-blank (asked s resolution) n = only-refusal _ n
refused-blank (asked s generalized) n = only-refusal _ n
refused-blank (asked s charted) n = only-refusal _ n
refused-blank (asked s advice) n = only-refusal _ n
refused-blank (asked s (word j)) n = only-refusal _ n
refused-blank (asked s (figure i)) n = only-refusal _ n
refused-blank (asked s (turns k)) n = only-refusal _ n
refused-blank (asked s (set_word f I)) n = only-refusal _ n
refused-blank (asked s (tell i J)) n = only-refusal _ n
refused-blank (asked s (table relative f rooms)) n = (only-refusal _ n, left-blank (asked s (table relative f rooms)) n rooms _)
refused-blank (compared s t) n =
    no-verdict (compare_answer (begins s) (plan_asked s) (runs_asked s) (begins t) (plan_asked t) (runs_asked t)) n
refused-blank (levels-checked p) n = tt
refused-blank (plan-checked p) n = tt
refused-blank (diagonal p) n = only-refusal _ n
refused-blank (opened p) n = (only-refusal _ n, left-blank (opened p) n empty_held _)
refused-blank (written p bytes) n = only-refusal _ n
refused-blank (level-occurs p i e) n = only-refusal _ n
refused-blank (first_alike p f) n = only-refusal _ n
refused-blank (struck-or-reinstated h c) n = (only-refusal _ n, left-blank (struck-or-reinstated h c) n h _)
refused-blank (held-written h a b) n = (only-refusal _ n, refl)
refused-blank (read text room other) n = only-refusal _ n
refused-blank (listed text room) n = (only-refusal _ n, left-blank (listed text room) n room _)
refused-blank (refusal-listed text) n = tt
refused-blank (rewritten text lost a b) n = only-refusal _ n
refused-blank (tell-marked p marks a J room) n = (only-refusal _ n, left-blank (tell-marked p marks a J room) n room _)
refused-blank (table-marked p marks relative f rooms) n = (only-refusal _ n, left-blank (table-marked p marks relative f rooms) n rooms _)
refused-blank (placed m f I) n = only-refusal _ n
refused-blank (set-at m f k) n = only-refusal _ n

-- ---- the plan of a refused opening: a call that names a run is 8, and any other 10, whatever else is wrong with it

pub empty-run : (c : held.Call) → refused_by (struck-or-reinstated empty_held c) ≡ plain 8
empty-run c = ap (λ (a : Answered (Unit {0})). refusal_in a.answer) (call-empty c)

pub empty-asked : (q : Question) → refused_by (asked (of-held empty_held) q) ≡ plain 10
unfolding words_answer row_sums_answer strength_answer resolution_answer generalized_answer chart_answer advice_answer word_answer figure_answer turns_answer
    set_word_answer tell_answer table_answer standing
empty-asked words = refl
empty-asked row-sums = refl
empty-asked strength = refl
empty-asked resolution = refl
empty-asked generalized = refl
empty-asked charted = refl
empty-asked advice = refl
empty-asked (word j) = refl
empty-asked (figure i) = refl
empty-asked (turns k) = refl
empty-asked (set_word f I) = refl
empty-asked (tell i J) = refl
empty-asked (table relative f rooms) = refl

pub empty-written : (a b : ℕ) → refused_by (held-written empty_held a b) ≡ plain 10
unfolding held_text text_answer text_refusal standing
empty-written a b = refl
