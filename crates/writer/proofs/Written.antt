-- Request #101: reading what is written gives the plan back, and a plan has only one text; the text of a good plan is short enough.
use Rattle.exact.proofs.Ground.{List, [], ◌∷◌, map, ◌++◌, ◌≡◌, ◌∙◌, sym, ap, refl, ap₂, subst, ℕ, ◌≤◌, ◌<◌, ◌*◌, suc, suc-mul, arith, length}
use Rattle.exact.proofs.Ground.{length-append, length-map, ne_eqb}
use Rattle.exact.specs.Lists.{each}
use Rattle.exact.proofs.Numbers.{mul-below}
use Rattle.rules.specs.Plan.{Plan, plan, columns, every_run, longest_text}
use Rattle.rules.specs.Refusals.{answered, accepted}
use Rattle.plan.specs.Good.{Good}
use Rattle.plan.proofs.Checks.{good-own}
use Rattle.plan.proofs.Sound.{good-sound}
use Rattle.text.specs.Decimal.{decimal}
use Rattle.text.specs.Reader.{room_checks, plan_refusal, read_refusal, sizes, read_answer}
use Rattle.text.specs.Text.{split, numbers, count, ended, first_malformed, width, malformed_line, plan_of, join, write_line, write_lines}
use Rattle.text.proofs.Split.{All, split-there, join-split}
use Rattle.text.proofs.Digits.{decimal-length}
use Rattle.text.proofs.Lines.{Row, Formed, whole, line-numbers, ended-whole, whole-formed, none-malformed, split-lines, lines-formed, lines_rows, lines-back}
use Rattle.text.proofs.Answers.{room-enough, formed-text}
use Rattle.writer.specs.Writer.{row, text_of, write_text, plan_of_runs, most_of_text, Runs}
use Rattle.writer.proofs.Rows.{flat, each-flat, rows-flat, every-run, runs-rows}

-- ---- a text without a malformed line is that of its plan

-- its lines: the first, which says how many numbers a line holds, and the later ones
pub record Lined (text : List ℕ) : Type 0 where
  pub line : List ℕ
  pub later : List (List ℕ)
  pub same : split 10 text ≡ whole (line ∷ later)
  pub each : All (Formed (count line)) (line ∷ later)

lined : (text : List ℕ) (lines : List (List ℕ)) → split 10 text ≡ whole lines → 0 < length text →
    All (Formed (width (whole lines))) lines → Lined text
lined text [] e h f = absurd (let d : text ≡ [] = sym (join-split 10 text) ∙ ap (join 10) e in let l = ap length d in omega arith)
lined text (line ∷ later) e h f = record { line = line; later = later; same = e; each = f }

pub well-formed : (text : List ℕ) → malformed_line text ≡ 0 → Lined text
unfolding malformed_line
well-formed [] e = absurd (omega arith)
well-formed (b ∷ bs) e =
    let text = b ∷ bs in
    let pieces = split 10 text in
    let d : first_malformed (width pieces) 1 pieces ≡ 0 = rw (ne_eqb (length text) 0 (λ z. omega arith)) at e in
    let F = none-malformed (width pieces) 1 pieces (omega arith) (split-there 10 text) d in
    lined text (ended pieces) F.same (omega arith) (subst (λ l. All (Formed (width l)) (ended pieces)) F.same F.each)

pub plan-lined : (text : List ℕ) (L : Lined text) → plan_of text ≡ plan (numbers L.line) (each L.later numbers)
unfolding plan_of
plan-lined text L = rw (L.same, ended-whole (L.line ∷ L.later))

-- writing what was read gives the text again
pub text-back : (text : List ℕ) → malformed_line text ≡ 0 → write_text (plan_of text) ≡ text
unfolding text_of
text-back text e =
    let L = well-formed text e in
    let m = count L.line in
    let rows = map numbers L.later in
    let levels = numbers L.line in
    let R = lines_rows m (L.line ∷ L.later) L.each in
    ap write_text (plan-lined text L ∙ ap (plan levels) (each-flat L.later numbers))
    ∙ ap (λ rs. write_lines (levels ∷ rs)) (rows-flat levels rows R.0 R.1)
    ∙ lines-back m (L.line ∷ L.later) L.each ∙ ap (join 10) (sym L.same) ∙ join-split 10 text

-- a plan has only one text
pub text-unique : (s t : List ℕ) → malformed_line s ≡ 0 → malformed_line t ≡ 0 → plan_of s ≡ plan_of t → s ≡ t
text-unique s t p q e = sym (text-back s p) ∙ ap write_text e ∙ text-back t q

written-numbers : (m : ℕ) (rows : List (List ℕ)) → All (Row m) rows → each (map write_line rows) numbers ≡ flat rows
written-numbers m [] h = refl
written-numbers m (row ∷ rows) h = ap₂ (λ a b. a ++ b) (line-numbers row h.0) (written-numbers m rows h.1)

-- ---- how long a text is

line-length : (xs : List ℕ) → 0 < length xs → All (λ x. x < 100) xs → suc (length (join 44 (map decimal xs))) ≤ 3 * length xs
line-length [] h k = absurd (omega arith)
line-length (x ∷ []) h k = let d = decimal-length 1 x k.0 in omega arith
line-length (x ∷ y ∷ xs) h k =
    let d = decimal-length 1 x k.0 in
    let r = line-length (y ∷ xs) (omega arith) k.1 in
    rw (length-append (decimal x) (44 ∷ join 44 (map decimal (y ∷ xs)))) (omega arith)

lines-length : (m : ℕ) (rows : List (List ℕ)) → All (Row m) rows → length (write_lines rows) ≤ 3 * (length rows * m)
unfolding write_line
lines-length m [] h = omega arith
lines-length m (xs ∷ rows) h =
    let e = h.0.size in
    let d = line-length xs (rw e h.0.low) h.0.small in
    let r = lines-length m rows h.1 in
    let s = suc-mul (length rows) m in
    rw (length-append (write_line xs) (10 ∷ write_lines rows)) (omega arith)

-- ---- the text of some runs, the numbers below 100

module _ (p : Plan) (rs : List ℕ) (R : Runs p rs) where
  text-rows : All (Row (columns p)) (p.levels ∷ map (row p) rs)
  text-rows = runs-rows p rs R

  text-lined : Lined (text_of p rs)
  unfolding text_of
  text-lined =
      let F = lines-formed (columns p) (p.levels ∷ map (row p) rs) text-rows in
      record {
        line = write_line p.levels;
        later = map write_line (map (row p) rs);
        same = split-lines (columns p) (p.levels ∷ map (row p) rs) text-rows;
        each = subst (λ n. All (Formed n) (map write_line (p.levels ∷ map (row p) rs))) (sym F.0.size) F;
      }

  -- no line is malformed
  pub text-formed : malformed_line (text_of p rs) ≡ 0
  unfolding malformed_line text_of
  text-formed =
      let L = text-lined in
      let l = length-append (write_line p.levels) (10 ∷ write_lines (map (row p) rs)) in
      rw (ne_eqb (length (write_line p.levels ++ 10 ∷ write_lines (map (row p) rs))) 0 (λ z. omega arith), L.same)
      (whole-formed (count L.line) 1 (L.line ∷ L.later) L.each)

  -- and the plan that the text holds is that of these runs
  pub text-plan : plan_of (text_of p rs) ≡ plan_of_runs p rs
  unfolding text-lined
  text-plan =
      plan-lined (text_of p rs) text-lined
      ∙ rw (line-numbers p.levels text-rows.0, written-numbers (columns p) (map (row p) rs) text-rows.1, each-flat rs (row p))

  -- how long it is
  pub text-short : length (text_of p rs) ≤ most_of_text
  unfolding text_of
  text-short =
      let l = lines-length (columns p) (p.levels ∷ map (row p) rs) text-rows in
      let rows = p.levels ∷ map (row p) rs in
      let few : length rows ≤ 257 = omega (arith, length-map rs (row p), R.sound.few) in
      omega (arith, mul-below (length rows) (columns p) 257 24 few R.sound.columns-high)

-- ---- the text of a good plan

module _ (p : Plan) (G : Good p) where
  pub good-runs : Runs p (every_run p)
  good-runs = record { sound = good-sound p G; some-columns = G.columns-low }

  pub written-formed : malformed_line (write_text p) ≡ 0
  written-formed = text-formed p (every_run p) good-runs

  -- reading what was written gives the plan again
  pub written-plan : plan_of (write_text p) ≡ p
  written-plan = text-plan p (every_run p) good-runs ∙ every-run p G.size

  pub good-short : length (write_text p) ≤ longest_text
  good-short = omega (arith, text-short p (every_run p) good-runs)

  -- with rooms that are large enough the reader gives the plan back
  pub good-text : (levels table : List ℕ) → columns p ≤ length levels → length p.table ≤ length table →
      read_answer (write_text p) levels table ≡ answered accepted (sizes p)
  unfolding plan_refusal
  good-text levels table h k =
      let a = length levels in
      let b = length table in
      let e = written-plan in
      let r : read_refusal (write_text p) a b ≡ accepted =
      formed-text (write_text p) a b good-short written-formed
      ∙ rw e (good-own p (room_checks p a b) tt G ∙ room-enough p a b h k) in
      rw (r, e)
