-- What is left of a text: refused by the reader, by a strike, or by nothing.
use Rattle.exact.proofs.Ground.{true, false, Bool, cond, List, ◌≡◌, ◌∙◌, sym, ap, refl, ℕ, eqb, eqb-false, not-true}
use Rattle.std.specs.Prelude.{Err}
use Rattle.rules.specs.declared.Refusal.{Refusal}
use Rattle.rules.specs.Plan.{most_columns, most_entries}
use Rattle.rules.specs.Refusals.{refuses, refusal_in, or_else}
use Rattle.rules.proofs.Ranges.{unless-accepted, or-neither}
use Rattle.held.specs.declared.Answered.{Answered}
use Rattle.held.specs.Held.{IsHeld, none-held, empty_held, open_answer}
use Rattle.text.specs.Text.{plan_of}
use Rattle.text.specs.Reader.{read_refusal}
use Rattle.standing_text.specs.StandingText.{left_of, read_left}
use Rattle.standing_text.proofs.Struck.{left-held, strikes-refuse}

module _ (text lost : List ℕ) where
  abbrev of_reader : Refusal
  of_reader = read_refusal text most_columns most_entries

  abbrev nothing : Answered Unit
  nothing = record { held = empty_held; answer = Err of_reader }

  pub read-left-held : IsHeld (read_left text lost).held
  unfolding read_left
  read-left-held = go (refuses of_reader)
    where
      go : (b : Bool) → IsHeld (cond b nothing (left_of text lost)).held
      go true = none-held
      go false = left-held text lost

  -- the reader's refusal, then that of the first refused strike
  pub read-left-refused : refusal_in (read_left text lost).answer ≡ or_else of_reader (refusal_in (left_of text lost).answer)
  unfolding read_left
  read-left-refused = go (refuses of_reader)
    where
      go : (b : Bool) → refusal_in (cond b nothing (left_of text lost)).answer ≡ cond b of_reader (refusal_in (left_of text lost).answer)
      go true = refl
      go false = refl

  -- where neither refuses, the runs are struck
  pub read-left-accepted : (refusal_in (read_left text lost).answer).number ≡ 0 → read_left text lost ≡ left_of text lost
  unfolding read_left
  read-left-accepted z =
      unless-accepted of_reader nothing (left_of text lost)
      (or-neither of_reader (refusal_in (left_of text lost).answer) (ap (λ r. r.number) (sym read-left-refused) ∙ z)).0

  -- and an error is a refusal
  pub read-left-refuses : {e : Refusal} → Err e ≡ (read_left text lost).answer → ¬ (e.number ≡ 0)
  unfolding read_left left_of
  read-left-refuses {e} w = go (refuses of_reader) refl w
    where
      go : (b : Bool) → refuses of_reader ≡ b → Err e ≡ (cond b nothing (left_of text lost)).answer → ¬ (e.number ≡ 0)
      go true d v = let same : e ≡ of_reader = cc in rw same (eqb-false of_reader.number 0 (not-true (eqb of_reader.number 0) d))
      go false d v = strikes-refuse (open_answer (plan_of text)).held lost v
