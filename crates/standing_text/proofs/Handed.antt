-- Request #101, theorems: what a bench hands over is read back, with the same words; a text without lost runs is rewritten as it was.
use Rattle.exact.proofs.Ground.{true, Bool, not, List, [], ◌≡◌, ◌∙◌, sym, ap, refl, ap₂, ℕ, ◌≤◌, ◌<◌, arith, length, replicate, length-replicate}
use Rattle.exact.specs.Lists.{from, keep, holds}
use Rattle.exact.proofs.Lists.{map-cong-in}
use Rattle.exact.proofs.Numbers.{length_from}
use Rattle.rules.specs.Plan.{Plan, plan, columns, runs, every_run, most_columns, most_entries}
use Rattle.rules.specs.Refusals.{refusal, answered, refusal_in, accepted, plan_checks}
use Rattle.rules.proofs.Ranges.{unless-accepted}
use Rattle.plan.specs.Good.{Good}
use Rattle.plan.proofs.Checks.{good-passed}
use Rattle.words.specs.Answers.{word_list}
use Rattle.held.specs.declared.Held.{Held}
use Rattle.held.specs.Held.{standing, held_of, empty_held, IsHeld, plan_in, standing_in, open_answer}
use Rattle.held.proofs.Standing.{all-stand}
use Rattle.held.proofs.Marks.{marks-in, plan-in}
use Rattle.held.proofs.Sizes.{sized}
use Rattle.held.proofs.Opened.{open-held}
use Rattle.held_questions.specs.Alike.{Alike}
use Rattle.held_questions.proofs.Alike.{SameShown, alike-answer}
use Rattle.text.specs.Text.{malformed_line, plan_of}
use Rattle.text.specs.Reader.{read_refusal, read_answer}
use Rattle.text.specs.Reader as Reader
use Rattle.text.proofs.InFront.{read-accepted}
use Rattle.writer.specs.Writer.{row, text_of, plan_of_runs}
use Rattle.writer.proofs.Written.{text-formed, text-plan, text-back, good-text}
use Rattle.standing_text.specs.StandingText.{sizes, text_in, text_refusal, text_answer, held_text}
use Rattle.standing_text.specs.StandingText.{left_of, rewritten, runs_left, rewrite_refusal, rewrite_answer}
use Rattle.standing_text.proofs.Made.{made-text, made-good, made-words}
use Rattle.standing_text.proofs.Answers.{standing-runs, rooms-enough, then-struck}
use Rattle.standing_text.proofs.Left.{left-are, left-plan}

-- ---- the text of a held plan

-- the plan that the standing runs make, numbered anew
abbrev pub standing_plan : Held → Plan
standing_plan h = plan_of_runs (plan_in h) (standing_in h)

-- with rooms that are large enough the text is written, no line of it is malformed, and the reader finds a good plan in it: that of the standing runs
pub record Handed (h : Held) : Type 0 where
  pub written : (a b : ℕ) → length (text_in h) ≤ a → length (standing_in h) ≤ b →
      (held_text h a b).answer ≡ answered accepted (sizes (text_in h) (standing_in h))
  pub formed : malformed_line (text_in h) ≡ 0
  pub holds : plan_of (text_in h) ≡ standing_plan h
  pub good : Good (standing_plan h)
  pub back : (levels table : List ℕ) → columns (plan_in h) ≤ length levels → length (standing_plan h).table ≤ length table →
      read_answer (text_in h) levels table ≡ answered accepted (Reader.sizes (standing_plan h))

module _ {h : Held} (H : IsHeld h) (some : 0 < h.runs) where
  pub held-text : Handed h
  unfolding held_text text_answer
  held-text =
      let p = plan_in h in
      let rs = standing_in h in
      let R = standing-runs H some in
      let G = made-good p rs R ((sized H).some-stand some) in
      record {
        written = λ a b k l. rw (rooms-enough H a b (λ z. omega arith) k l);
        formed = text-formed p rs R;
        holds = text-plan p rs R;
        good = G;
        back = λ levels table k l. rw (sym (made-text p rs R)) (good-text (standing_plan h) G levels table k l);
      }

  -- its words are those of the standing runs
  pub held-words : word_list (standing_plan h) (every_run (standing_plan h)) ≡ word_list (plan_in h) (standing_in h)
  held-words = made-words (plan_in h) (standing_in h) (standing-runs H some)

-- ---- an accepted text, some of its runs lost

-- the runs of the text that are not named as lost
abbrev pub not_lost : List ℕ → List ℕ → List ℕ
not_lost text lost = keep (λ f. not (holds f lost)) (every_run (plan_of text))

-- with no run lost the text comes out as it was, its runs being all that it has
pub record Unchanged (text : List ℕ) : Type 0 where
  pub same : rewritten text [] ≡ text
  pub numbers : runs_left text [] ≡ every_run (plan_of text)
  pub answer : (a b : ℕ) → length text ≤ a → runs (plan_of text) ≤ b →
      rewrite_answer text [] a b ≡ answered accepted (sizes text (every_run (plan_of text)))

runs-held : (p : Plan) (marks : List Bool) → (held_of p marks).runs ≡ runs p
unfolding held_of
runs-held p marks = refl

module _ (text : List ℕ) (z : (read_refusal text most_columns most_entries).number ≡ 0) where
  abbrev p : Plan
  p = plan_of text

  G : Good p
  G = (read-accepted text most_columns most_entries z).good

  abbrev marks : List Bool
  marks = replicate (runs p) true

  size : length marks ≡ runs p
  size = length-replicate (runs p) true

  opened : (open_answer p).held ≡ held_of p marks
  unfolding open_answer
  opened = unless-accepted (refusal (plan_checks p)) empty_held (held_of p marks) (ap (λ r. r.number) (good-passed p G))

  opened-plan : plan_in (open_answer p).held ≡ p
  opened-plan = ap plan_in opened ∙ plan-in p G marks size

  opened-runs : standing_in (open_answer p).held ≡ every_run p
  opened-runs = ap standing_in opened ∙ ap standing (marks-in p marks size) ∙ all-stand (runs p)

  -- where no strike is refused, the runs left are those not named as lost, and the text is theirs
  pub rewrite-left : (lost : List ℕ) → (refusal_in (left_of text lost).answer).number ≡ 0 →
      (runs_left text lost ≡ not_lost text lost) × (rewritten text lost ≡ text_of (plan_of text) (not_lost text lost))
  unfolding left_of
  rewrite-left lost y =
      let left = left-are (open-held p) lost y ∙ ap (keep (λ f. not (holds f lost))) opened-runs in
      (left, ap₂ text_of (left-plan (open-held p) lost ∙ opened-plan) left)

  whole-text : rewritten text [] ≡ text
  unfolding left_of
  whole-text = ap₂ text_of opened-plan opened-runs ∙ text-back text (read-accepted text most_columns most_entries z).formed

  enough : (a b : ℕ) → length text ≤ a → runs p ≤ b → text_refusal (left_of text []).held a b ≡ accepted
  unfolding left_of
  enough a b k l =
      rooms-enough (open-held p) a b (λ e. omega (arith, ap (λ (h : Held). h.runs) opened, runs-held p marks, G.runs-low))
      (rw whole-text k) (rw (opened-runs, length_from 0 (runs p)) l)

  pub rewrite-same : Unchanged text
  unfolding left_of rewrite_answer
  rewrite-same = record {
    same = whole-text;
    numbers = opened-runs;
    answer = λ a b k l. ap₂ (λ t n. answered (rewrite_refusal text [] a b) (sizes t n)) whole-text opened-runs
        ∙ ap (λ r. answered r (sizes text (every_run p))) (then-struck text [] a b z ∙ enough a b k l);
  }

-- ---- held plans that differ only in entries of struck runs

text-shown : (levels t u rs : List ℕ) → SameShown levels t u rs → text_of (plan levels t) rs ≡ text_of (plan levels u) rs
unfolding text_of
text-shown levels t u rs a =
    rw (map-cong-in rs {f = row (plan levels t)} {g = row (plan levels u)} (λ f mf. map-cong-in (from 0 (length levels)) (λ i mi. a f mf i mi)))

module _ {h k : Held} (A : Alike h k) where
  -- they give the same text, the same numbers and, whatever the rooms, the same answer
  pub alike-text : (text_in h ≡ text_in k) × ((standing_in h ≡ standing_in k) × ((a b : ℕ) → (held_text h a b).answer ≡ (held_text k a b).answer))
  unfolding held_text text_answer text_refusal
  alike-text =
      let text = alike-answer A text_of text-shown in
      let numbers = ap standing A.marks in
      (text, (numbers, λ a b. rw (text, numbers)))
