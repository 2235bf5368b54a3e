-- The branches of a strike and of a reinstatement, by the fields of the held plan, and what each hands back.
use Rattle.exact.proofs.Ground.{true, false, Bool, [], ◌∷◌, ◌≡◌, ◌∙◌, sym, ap, ℕ, ◌≤◌, ◌<◌, length, get_or, get_or-take, le-ltb, lt-ltb}
use Rattle.std.specs.Prelude.{Result, is_ok}
use Rattle.rules.specs.declared.Refusal.{Refusal}
use Rattle.rules.specs.Refusals.{refusal, refuses, answered, plain, accepted, too_few}
use Rattle.held.specs.declared.Held.{Held}
use Rattle.held.specs.Held.{IsHeld, marks_in, standing_in, Call, strikes, reinstates, run_of, stands, call_checks, remarked, call_answer}
use Rattle.held.specs.Given.{Changes}
use Rattle.held.proofs.Marks.{accepted-ok, refused-ok, refusal_of, accepts}
use Rattle.held.proofs.Sizes.{sized}

module _ {h : Held} (H : IsHeld h) where
  pub outside-refused : (c : Call) → h.runs ≤ run_of c → refusal_of (marks_in h) c ≡ plain 8
  unfolding call_checks
  outside-refused (strikes f) l = rw ((sized H).marks-held, le-ltb f h.runs l)
  outside-refused (reinstates f) l = rw ((sized H).marks-held, le-ltb f h.runs l)

  module _ (f : ℕ) (l : f < h.runs) where
    mark-is : {b : Bool} → get_or h.marks f false ≡ b → get_or (marks_in h) f false ≡ b
    mark-is e = get_or-take h.runs h.marks f false l ∙ e

    pub struck-refused : get_or h.marks f false ≡ false → refusal_of (marks_in h) (strikes f) ≡ plain 9
    unfolding call_checks
    struck-refused e = rw ((sized H).marks-held, lt-ltb f h.runs l, mark-is e)

    pub strike-asks : get_or h.marks f false ≡ true → refusal_of (marks_in h) (strikes f) ≡ refusal (too_few 2 (length (standing_in h)) ∷ [])
    unfolding call_checks
    strike-asks e = rw ((sized H).marks-held, lt-ltb f h.runs l, mark-is e)

    pub standing-refused : get_or h.marks f false ≡ true → refusal_of (marks_in h) (reinstates f) ≡ plain 9
    unfolding call_checks
    standing-refused e = rw ((sized H).marks-held, lt-ltb f h.runs l, mark-is e)

    pub reinstatement-accepted : get_or h.marks f false ≡ false → refusal_of (marks_in h) (reinstates f) ≡ accepted
    unfolding call_checks
    reinstatement-accepted e = rw ((sized H).marks-held, lt-ltb f h.runs l, mark-is e)

-- ---- what a call hands back, by its answer

module _ (h : Held) (c : Call) {a : Result Unit Refusal} (e : a ≡ answered (refusal_of (marks_in h) c) tt) where
  accepted-here : is_ok a ≡ true → refuses (refusal_of (marks_in h) c) ≡ false
  accepted-here o = accepted-ok (refusal_of (marks_in h) c) tt (ap is_ok (sym e) ∙ o)

  pub call-refused : is_ok a ≡ false → record { held = h; answer = a } ≡ call_answer h c
  unfolding call_answer
  call-refused o = rw (e, refused-ok (refusal_of (marks_in h) c) tt (ap is_ok (sym e) ∙ o))

  pub call-accepted : is_ok a ≡ true → record { held = remarked h (run_of c) (stands c); answer = a } ≡ call_answer h c
  unfolding call_answer
  call-accepted o = rw (e, accepted-here o)

  pub call-changes : IsHeld h → is_ok a ≡ true → Changes h (run_of c) (stands c)
  call-changes H o =
      let A = accepts (marks_in h) c (accepted-here o) in
      let l : run_of c < h.runs = rw (sized H).marks-held at A.there in
      record { held = H; there = l; mark = sym (get_or-take h.runs h.marks (run_of c) false l) ∙ A.before }
