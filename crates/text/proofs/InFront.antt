-- An accepted text, read to rooms that hold every accepted plan: its plan is good, and stands in front of them.
use Rattle.exact.proofs.Ground.{List, ◌≡◌, ◌∙◌, sym, ap, refl, ℕ, ◌≤◌, ◌*◌, ℕ_discrete, dec_le, arith, length, take, drop, take_at}
use native.Mathlib.Nat.{mul_comm}
use Rattle.std.specs.Prelude.{Ok}
use Rattle.exact.specs.Lists.{into}
use Rattle.exact.proofs.Numbers.{mul-below}
use Rattle.rules.specs.declared.Refusal.{Refusal}
use Rattle.rules.specs.Plan.{Plan, columns, runs, most_columns, most_runs, longest_text, most_entries}
use Rattle.rules.specs.Refusals.{refusal, answered, plan_checks}
use Rattle.rules.proofs.Answered.{ok-accepted, ok-is}
use Rattle.plan.specs.Good.{Good}
use Rattle.plan.proofs.Checks.{passed-good}
use Rattle.text.specs.declared.Sizes.{Sizes}
use Rattle.text.specs.Text.{malformed_line, plan_of}
use Rattle.text.specs.Reader.{read_refusal, sizes}
use Rattle.text.proofs.Answers.{refused-plan, long-text, malformed-text, formed-text}

pub entries-few : (p : Plan) → Good p → length p.table ≤ most_entries
entries-few p G = omega (arith, G.size, mul-below (runs p) (columns p) most_runs most_columns G.runs-high G.columns-high)

-- what the reader has seen of a text that it accepts
pub record Accepted (text : List ℕ) : Type 0 where
  pub short : length text ≤ longest_text
  pub formed : malformed_line text ≡ 0
  pub good : Good (plan_of text)

pub read-accepted : (text : List ℕ) (a b : ℕ) → (read_refusal text a b).number ≡ 0 → Accepted text
read-accepted text a b z =
    go (dec_le (length text) longest_text) (ℕ_discrete (malformed_line text) 0) (ℕ_discrete (refusal (plan_checks (plan_of text))).number 0)
  where
    number : {r : Refusal} → read_refusal text a b ≡ r → r.number ≡ 0
    number e = sym (ap (λ r. r.number) e) ∙ z

    go : Dec (length text ≤ longest_text) → Dec (malformed_line text ≡ 0) → Dec ((refusal (plan_checks (plan_of text))).number ≡ 0) → Accepted text
    go (no h) d e = absurd (let y = number (long-text text a b (omega arith)) in omega arith)
    go (yes h) (no d) e = absurd (let y = number (malformed-text text a b h d) in omega arith)
    go (yes h) (yes d) (no e) = absurd (e (number (formed-text text a b h d ∙ refused-plan (plan_of text) a b refl e)))
    go (yes h) (yes d) (yes e) = record { short = h; formed = d; good = passed-good (plan_of text) refl e }

-- an accepted plan stands in front of the rooms
pub record InFront (p : Plan) (a : Sizes) (after past : List ℕ) : Type 0 where
  pub good : Good p
  pub columns : a.columns ≡ columns p
  pub entries : a.columns * a.runs ≡ length p.table
  pub levels : take a.columns after ≡ p.levels
  pub table : take (a.columns * a.runs) past ≡ p.table

pub in-front : (text : List ℕ) {a : Sizes} → Ok a ≡ answered (read_refusal text most_columns most_entries) (sizes (plan_of text)) →
    (levels table : List ℕ) {after past : List ℕ} → after ≡ into (plan_of text).levels levels → past ≡ into (plan_of text).table table →
    InFront (plan_of text) a after past
in-front text {a} e levels table f g =
    let p = plan_of text in
    let r = read_refusal text most_columns most_entries in
    let G = (read-accepted text most_columns most_entries (ok-accepted r (sizes p) e)).good in
    let q = ok-is r (sizes p) e in
    let m : a.columns ≡ columns p = ap (λ x. x.columns) q in
    let n : a.runs ≡ runs p = ap (λ x. x.runs) q in
    let s : a.columns * a.runs ≡ length p.table = rw (m, n) (mul_comm (columns p) (runs p) ∙ sym G.size) in
    record {
      good = G;
      columns = m;
      entries = s;
      levels = ap (take a.columns) f ∙ take_at p.levels (drop (columns p) levels) a.columns (sym m);
      table = ap (take (a.columns * a.runs)) g ∙ take_at p.table (drop (length p.table) table) (a.columns * a.runs) (sym s);
    }
