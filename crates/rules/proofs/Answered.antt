-- What an answer tells of its refusal and its value: where a call was left early with an error, and where it went on with a value.
use Rattle.exact.proofs.Ground.{true, false, Bool, List, ◌++◌, ◌≡◌, ◌∙◌, sym, ap, refl, T, eqb, not, cond, eqb-true, eqb-false, ne_eqb, eq-eqb}
use Rattle.std.specs.Prelude.{Result, Ok, Err, IsErrAnd}
use Rattle.std.proofs.Common.{rules}
use Rattle.std.proofs.lemmas.Result.{err_from_is_err_and}
use Rattle.rules.specs.declared.Refusal.{Refusal}
use Rattle.rules.specs.Refusals.{Check, refusal, answered}
use Rattle.rules.proofs.Order.{in_turn, refused-by-first, passed-by-first}

module _ {A : Type 0} (r : Refusal) (value : A) where
  pub answered-err : ¬ (r.number ≡ 0) → answered r value ≡ Err r
  answered-err n = rw (ne_eqb r.number 0 n)

  pub answered-ok : r.number ≡ 0 → answered r value ≡ Ok value
  answered-ok z = rw (eq-eqb r.number 0 z)

module _ {A : Type 0} (r : Refusal) (value : A) where
  -- by the test of the number
  at-err : (b : Bool) (e : Refusal) → Err e ≡ cond (not b) (Err r) (Ok value) → (b ≡ false) × (r ≡ e)
  at-err true e w = search rules
  at-err false e w = search rules

  at-ok : (b : Bool) (y : A) → Ok y ≡ cond (not b) (Err r) (Ok value) → (b ≡ true) × (value ≡ y)
  at-ok true y w = search rules
  at-ok false y w = search rules

  module _ {e : Refusal} (w : Err e ≡ answered r value) where
    pub err-refused : ¬ (r.number ≡ 0)
    err-refused = eqb-false r.number 0 (at-err (eqb r.number 0) e w).0

    pub err-is : e ≡ r
    err-is = sym (at-err (eqb r.number 0) e w).1

    -- the same refusal stands in place of every other value
    pub err-again : {B : Type 0} (other : B) → Err e ≡ answered r other
    err-again other = ap Err err-is ∙ sym (answered-err r other err-refused)

  module _ {y : A} (w : Ok y ≡ answered r value) where
    pub ok-accepted : r.number ≡ 0
    ok-accepted = eqb-true r.number 0 (at-ok (eqb r.number 0) y w).0

    pub ok-is : y ≡ value
    ok-is = sym (at-ok (eqb r.number 0) y w).1

    pub ok-again : {B : Type 0} (other : B) → Ok other ≡ answered r other
    ok-again other = sym (answered-ok r other ok-accepted)

-- checks in turn: the others are asked only where the first pass
module _ {A B : Type 0} (ones others : List Check) (turn : T (in_turn ones others)) (x : A) (value : B) where
  pub err-first : {e : Refusal} → Err e ≡ answered (refusal ones) x → Err e ≡ answered (refusal (ones ++ others)) value
  err-first w = rw (refused-by-first ones others turn refl (err-refused (refusal ones) x w)) (err-again (refusal ones) x w value)

  pub ok-first : {y : A} → Ok y ≡ answered (refusal ones) x → answered (refusal (ones ++ others)) value ≡ answered (refusal others) value
  ok-first w = rw (passed-by-first ones others turn refl (ok-accepted (refusal ones) x w))

-- what the exit of a `?` returns
pub left-early : {A : Type 0} {e : Refusal} {t : Result A Refusal} (result : Result A Refusal) → IsErrAnd result (λ y. y ≡ e) → Err e ≡ t → result ≡ t
left-early result h w = let p = err_from_is_err_and result h in rw (p.1, p.2) w
