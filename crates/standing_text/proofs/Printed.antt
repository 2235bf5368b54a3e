-- What is printed of a text: by the reader or a strike that refuses it, or by the question to what is left.
use Rattle.exact.proofs.Ground.{true, false, Bool, List, ◌≡◌, ◌∙◌, sym, ap, refl, ℕ, ◌≤◌, arith, eqb}
use Rattle.std.specs.Prelude.{Result, Ok, Err}
use Rattle.rules.specs.declared.Refusal.{Refusal}
use Rattle.rules.specs.Refusals.{answered, refusal_in, unless}
use Rattle.rules.proofs.Answered.{answered-err}
use Rattle.rules.proofs.Ranges.{or-refused, or-accepted}
use Rattle.held.specs.declared.Held.{Held}
use Rattle.held.specs.declared.Answered.{Answered}
use Rattle.text.specs.Bytes.{Put}
use Rattle.text.proofs.Puts.{put_as}
use Rattle.lines.specs.Lines.{refusal_line}
use Rattle.lines.proofs.Lines.{put_refused}
use Rattle.standing_text.specs.StandingText.{read_left}
use Rattle.standing_text.specs.Printed.{printed_refusal, printed}
use Rattle.standing_text.proofs.ReadLeft.{read-left-refuses}

-- what an answer shows is what its refusal shows
beside-answered : (r : Refusal) (lines : List ℕ) →
    unless (refusal_in (answered r (tt {0}))) (refusal_line (refusal_in (answered r (tt {0})))) lines ≡ unless r (refusal_line r) lines
beside-answered r lines = go (eqb r.number 0) refl
  where
    go : (b : Bool) → eqb r.number 0 ≡ b →
        unless (refusal_in (answered r (tt {0}))) (refusal_line (refusal_in (answered r (tt {0})))) lines ≡ unless r (refusal_line r) lines
    go true q = rw q
    go false q = rw (q, q)

module _ (refusal_of : Held → Refusal) (lines_of : Held → List ℕ) (text lost : List ℕ) {left : Answered Unit} (e : left ≡ read_left text lost) where
  abbrev read : Answered Unit
  read = read_left text lost

  abbrev whole : Refusal
  whole = printed_refusal refusal_of lines_of text lost

  -- the answer, and its bytes, put into the front of a room
  abbrev Prints : Result Unit Refusal → ℕ → List ℕ → ℕ → List ℕ → Type 0
  Prints answer most room next after = (answer ≡ answered whole tt) × Put (printed refusal_of lines_of text lost) most 0 room next after

  prints : {most next : ℕ} {room after : List ℕ} → Put (unless whole (refusal_line whole) (lines_of left.held)) most 0 room next after →
      Put (printed refusal_of lines_of text lost) most 0 room next after
  prints P = put_as (ap (λ (a : Answered Unit). unless whole (refusal_line whole) (lines_of a.held)) e) (omega arith) P

  -- the text or a strike is refused
  pub left-prints : {r : Refusal} {answer : Result Unit Refusal} {most next : ℕ} {room after : List ℕ} → left.answer ≡ Err r → answer ≡ Err r → 71 ≤ most →
      Put (refusal_line r) 71 0 room next after → Prints answer most room next after
  left-prints {r} w d h P =
      let v : Err r ≡ read.answer = sym w ∙ ap (λ (a : Answered Unit). a.answer) e in
      let n = read-left-refuses text lost v in
      let i : refusal_in read.answer ≡ r = sym (ap (λ (a : Result Unit Refusal). refusal_in a) v) in
      let m : ¬ ((refusal_in read.answer).number ≡ 0) = λ z. n (ap (λ q. q.number) (sym i) ∙ z) in
      let q : whole ≡ r = or-refused (refusal_in read.answer) (refusal_of read.held) m ∙ i in
      (d ∙ sym (ap (λ r. answered r tt) q ∙ answered-err r tt n), prints (put_refused (lines_of left.held) q n h P))

  -- or the question is answered, or refused
  pub question-prints : {answer : Result Unit Refusal} {most next : ℕ} {room after : List ℕ} → left.answer ≡ Ok tt →
      answer ≡ answered (refusal_of left.held) tt →
      Put (unless (refusal_in answer) (refusal_line (refusal_in answer)) (lines_of left.held)) most 0 room next after → Prints answer most room next after
  question-prints w d P =
      let z : (refusal_in read.answer).number ≡ 0 =
      ap (λ (a : Result Unit Refusal). (refusal_in a).number) (ap (λ (a : Answered Unit). a.answer) (sym e) ∙ w) in
      let q : whole ≡ refusal_of left.held =
      or-accepted (refusal_in read.answer) (refusal_of read.held) z ∙ ap (λ (a : Answered Unit). refusal_of a.held) (sym e) in
      let f = d ∙ ap (λ r. answered r tt) (sym q) in (
        f,
        prints (put_as (ap (λ (x : Result Unit Refusal). unless (refusal_in x) (refusal_line (refusal_in x)) (lines_of left.held)) f
            ∙ beside-answered whole (lines_of left.held)) (omega arith) P),
      )
