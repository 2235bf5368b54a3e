-- The refusal of a text at each of the reader's returns.
use Rattle.exact.proofs.Ground.{List, [], ◌∷◌, ◌≡◌, sym, ap₂, subst, ℕ, ◌≤◌, ◌<◌, length, ne_eqb, le-ltb, eq-eqb, lt-ltb}
use Rattle.std.specs.Prelude.{Ok, Err}
use Rattle.rules.specs.declared.Refusal.{Refusal}
use Rattle.rules.specs.Plan.{Plan, plan, columns, longest_text}
use Rattle.rules.specs.Refusals.{refusal, answered, accepted, plain, placed, malformed, of_plan, plan_checks}
use Rattle.rules.proofs.Answered.{err-first, ok-first}
use Rattle.plan.proofs.Checks.{plan-refused, plan-passed}
use Rattle.text.specs.Text.{malformed_line, plan_of}
use Rattle.text.specs.Reader.{room_checks, plan_refusal, read_refusal, sizes, plan_answer, read_answer}

-- ---- a plan that was read

module _ (p : Plan) (a b : ℕ) where
  pub refused-plan : {r : Refusal} → r ≡ refusal (plan_checks p) → ¬ (r.number ≡ 0) → plan_refusal p a b ≡ r
  unfolding plan_refusal
  refused-plan e n = plan-refused p (room_checks p a b) tt e n

  pub own-checks : {r : Refusal} → r ≡ refusal (plan_checks p) → r.number ≡ 0 → plan_refusal p a b ≡ refusal (room_checks p a b)
  unfolding plan_refusal
  own-checks e z = plan-passed p (room_checks p a b) tt e z

  pub room-enough : columns p ≤ a → length p.table ≤ b → refusal (room_checks p a b) ≡ accepted
  room-enough h k = rw (le-ltb a (columns p) h, le-ltb b (length p.table) k)

-- ---- a text

module _ (text : List ℕ) (a b : ℕ) where
  pub long-text : longest_text < length text → read_refusal text a b ≡ plain 13
  unfolding read_refusal
  long-text h = rw (lt-ltb longest_text (length text) h)

  pub malformed-text : length text ≤ longest_text → ¬ (malformed_line text ≡ 0) → read_refusal text a b ≡ placed 14 (malformed_line text) 0
  unfolding read_refusal
  malformed-text h n = rw (le-ltb longest_text (length text) h, ne_eqb (malformed_line text) 0 n)

  pub formed-text : length text ≤ longest_text → malformed_line text ≡ 0 → read_refusal text a b ≡ plan_refusal (plan_of text) a b
  unfolding read_refusal plan_refusal
  formed-text h z = rw (le-ltb longest_text (length text) h, eq-eqb (malformed_line text) 0 z)

-- what the lines of a text that is short enough answer, with a value x that nothing takes
module _ {A : Type 0} (text levels table : List ℕ) (short : length text ≤ longest_text) (x : A) where
  abbrev own : Refusal
  own = refusal (malformed (malformed_line text) ∷ [])

  pub unread-text : {e : Refusal} → Err e ≡ answered own x → Err e ≡ read_answer text levels table
  unfolding read_refusal
  unread-text w =
      let p = plan_of text in
      rw (le-ltb longest_text (length text) short)
      (err-first (malformed (malformed_line text) ∷ []) (of_plan p (room_checks p (length levels) (length table))) tt x (sizes p) w)

  pub read_text : {y : A} → Ok y ≡ answered own x → (xs ys : List ℕ) → xs ≡ (plan_of text).levels → ys ≡ (plan_of text).table →
      plan_answer (plan xs ys) levels table ≡ read_answer text levels table
  unfolding read_refusal plan_refusal
  read_text w xs ys e f =
      let p = plan_of text in
      subst (λ q. plan_answer q levels table ≡ read_answer text levels table) (sym (ap₂ plan e f))
      (rw (le-ltb longest_text (length text) short)
      (sym (ok-first (malformed (malformed_line text) ∷ []) (of_plan p (room_checks p (length levels) (length table))) tt x (sizes p) w)))
