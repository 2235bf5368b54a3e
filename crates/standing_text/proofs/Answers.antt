-- The refusal at each return of the two calls, and what is answered.
use Rattle.exact.proofs.Ground.{true, false, Bool, cond, List, [], ◌∷◌, ◌≡◌, ◌∙◌, sym, ap, refl, ℕ, ◌≤◌, ◌<◌, arith, ltb, length, drop}
use Rattle.exact.proofs.Ground.{length-append, le-ltb, lt-ltb}
use Rattle.std.specs.Prelude.{Result, Ok, Err, IsErrAnd, IfOk}
use Rattle.std.proofs.lemmas.Result.{err_from_is_err_and}
use Rattle.exact.specs.Lists.{into}
use Rattle.rules.specs.declared.Refusal.{Refusal}
use Rattle.rules.specs.Plan.{most_columns, most_entries}
use Rattle.rules.specs.Refusals.{Check, refusal, answered, refusal_in, accepted, plain, or_else, bad_room}
use Rattle.rules.proofs.Ranges.{unless-refused, unless-accepted, or-refused, or_assoc}
use Rattle.rules.proofs.Answered.{answered-err, err-refused, err-is, err-again, ok-accepted, ok-is, answered-ok}
use Rattle.held.specs.declared.Held.{Held}
use Rattle.held.specs.declared.Answered.{Answered}
use Rattle.held.specs.Held.{IsHeld, plan_in, standing_in}
use Rattle.held.proofs.Lent.{columns-in, some-asks}
use Rattle.held.proofs.Sizes.{sized}
use Rattle.text.specs.Reader.{read_refusal, filled}
use Rattle.writer.specs.Writer.{write_answer, bad_text_room, Runs}
use Rattle.standing_text.specs.declared.Text.{Text}
use Rattle.standing_text.specs.StandingText.{
  sizes,
  text_in,
  text_refusal,
  text_answer,
  left_of,
  read_left,
  rewritten,
  runs_left,
  rewrite_refusal,
  rewrite_answer,
}
use Rattle.standing_text.proofs.ReadLeft.{read-left-refused, read-left-accepted, read-left-refuses}

-- what is put in lies in the rooms
pub answers-within : (R : Refusal) (text numbers room slots : List ℕ) (r : Result Text Refusal) {after past : List ℕ} → r ≡ answered R (sizes text numbers) →
    after ≡ filled (refusal_in r) text room → past ≡ filled (refusal_in r) numbers slots → IfOk r (λ t. (t.bytes ≤ length after) × (t.runs ≤ length past))
answers-within R text numbers room slots (Ok t) e f g =
    rw (ok-is R (sizes text numbers) e, f, g) (fits text room, fits numbers slots)
  where
    fits : (xs d : List ℕ) → length xs ≤ length (into xs d)
    fits xs d = rw (length-append xs (drop (length xs) d)) (omega arith)
answers-within R text numbers room slots (Err r) e f g = tt

-- at the exit of a `?` a lent room is as it was
pub stays : {A : Type 0} (xs room : List ℕ) (e : Refusal) (result : Result A Refusal) → IsErrAnd result (λ y. y ≡ e) → ¬ (e.number ≡ 0) →
    room ≡ filled (refusal_in result) xs room
stays xs room e result h n = let (y, is, same) = err_from_is_err_and result h in rw (is, same) (sym (unless-refused e room (into xs room) n))

-- ---- the text of a held plan

-- the runs that stand are sound, and there are columns where there are runs
pub standing-runs : {h : Held} → IsHeld h → 0 < h.runs → Runs (plan_in h) (standing_in h)
standing-runs H some = record { sound = (sized H).sound; some-columns = rw (columns-in H) ((sized H).columns-low some) }

-- the rooms hold a bytes and b numbers
abbrev pub rooms_of : Held → ℕ → ℕ → List Check
rooms_of h a b = bad_room (length (text_in h)) a ∷ bad_room (length (standing_in h)) b ∷ []

module _ {h : Held} (H : IsHeld h) (a b : ℕ) where
  pub rooms-enough : ¬ (h.runs ≡ 0) → length (text_in h) ≤ a → length (standing_in h) ≤ b → text_refusal h a b ≡ accepted
  unfolding text_refusal
  rooms-enough n k l = some-asks H (rooms_of h a b) n ∙ rw (le-ltb a (length (text_in h)) k, le-ltb b (length (standing_in h)) l)

-- where some runs stand, the rooms decide
module _ (h : Held) (a b : ℕ) (own : text_refusal h a b ≡ refusal (rooms_of h a b)) where
  -- the room for the numbers is too small
  pub small-numbers : b < length (standing_in h) → Err (plain 7) ≡ text_answer h a b
  unfolding text_answer
  small-numbers l = rw (own, lt-ltb b (length (standing_in h)) l) (go (ltb a (length (text_in h))))
    where
      go : (c : Bool) → Err (plain 7) ≡ answered (cond c (plain 7) (plain 7)) (sizes (text_in h) (standing_in h))
      go true = refl
      go false = refl

  -- where they fit, the writer's answer is the call's
  module _ (l : length (standing_in h) ≤ b) where
    by-writer : text_refusal h a b ≡ refusal (bad_text_room (plan_in h) (standing_in h) a ∷ [])
    by-writer = own ∙ rw (le-ltb b (length (standing_in h)) l)

    pub text-unwritten : {e : Refusal} → Err e ≡ write_answer (plan_in h) (standing_in h) (λ checks. checks) a → Err e ≡ text_answer h a b
    unfolding write_answer text_answer
    text-unwritten w = rw by-writer (err-again _ (length (text_in h)) w (sizes (text_in h) (standing_in h)))

    pub unwritten-refuses : {e : Refusal} → Err e ≡ write_answer (plan_in h) (standing_in h) (λ checks. checks) a → ¬ (e.number ≡ 0)
    unfolding write_answer
    unwritten-refuses w = rw (err-is _ (length (text_in h)) w) (err-refused _ (length (text_in h)) w)

    pub text-written : {n : ℕ} → Ok n ≡ write_answer (plan_in h) (standing_in h) (λ checks. checks) a →
        Ok (record { bytes = n; runs = length (standing_in h) }) ≡ text_answer h a b
    unfolding write_answer text_answer
    text-written w =
        let r = refusal (bad_text_room (plan_in h) (standing_in h) a ∷ []) in
        rw (by-writer, ok-is r (length (text_in h)) w) (sym (answered-ok r (sizes (text_in h) (standing_in h)) (ok-accepted r (length (text_in h)) w)))

-- ---- a text without the lost runs

-- an accepted text is refused by its strikes, or by the text that is left
pub then-struck : (text lost : List ℕ) (a b : ℕ) → (read_refusal text most_columns most_entries).number ≡ 0 →
    rewrite_refusal text lost a b ≡ or_else (refusal_in (left_of text lost).answer) (text_refusal (left_of text lost).held a b)
unfolding rewrite_refusal
then-struck text lost a b z = unless-accepted (read_refusal text most_columns most_entries) _ _ z

-- the plan that is left, or what refuses it
module _ (text lost : List ℕ) (a b : ℕ) {left : Answered Unit} (e : left ≡ read_left text lost) where
  abbrev of_text : Refusal
  of_text = text_refusal (left_of text lost).held a b

  first : rewrite_refusal text lost a b ≡ or_else (refusal_in left.answer) of_text
  unfolding rewrite_refusal
  first =
      sym (or_assoc (read_refusal text most_columns most_entries) (refusal_in (left_of text lost).answer) of_text)
      ∙ ap (λ r. or_else r of_text) (sym (ap (λ (x : Answered Unit). refusal_in x.answer) e ∙ read-left-refused text lost))

  pub not_left : {r : Refusal} → Err r ≡ left.answer → Err r ≡ rewrite_answer text lost a b
  unfolding rewrite_answer
  not_left {r} w =
      let n = read-left-refuses text lost (w ∙ ap (λ (x : Answered Unit). x.answer) e) in
      let q : rewrite_refusal text lost a b ≡ r = first ∙ ap (λ x. or_else (refusal_in x) of_text) (sym w) ∙ or-refused r of_text n in
      rw q (sym (answered-err r (sizes (rewritten text lost) (runs_left text lost)) n))

  module _ (w : Ok tt ≡ left.answer) where
    pub left-struck : left ≡ left_of text lost
    left-struck = e ∙ read-left-accepted text lost (ap (λ (x : Answered Unit). (refusal_in x.answer).number) (sym e) ∙ ap (λ x. (refusal_in x).number) (sym w))

    pub left-written : text_answer left.held a b ≡ rewrite_answer text lost a b
    unfolding text_answer rewrite_answer
    left-written =
        rw (first, ← w) (ap (λ (x : Answered Unit). answered (text_refusal x.held a b) (sizes (text_in x.held) (standing_in x.held))) left-struck)
