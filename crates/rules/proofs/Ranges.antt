-- What the tests of the checks tell: a number that is not outside its range, what stands beside a refusal, and a refusal negated.
use Rattle.exact.proofs.Ground.{true, false, Bool, ◌≡◌, ◌∙◌, sym, ap, refl, ℕ, ◌≤◌, ◌<◌, ◌^◌, arith, eqb, ltb, pos, nat_abs, ◌-ℤ◌, neg_ℤ, +ℤ_idl}
use Rattle.exact.proofs.Ground.{ne_eqb, le-ltb, eq-eqb, eqb-true, ltb-false, eqb-false}
use Rattle.exact.specs.Lists.{outside}
use Rattle.exact.proofs.Tests.{neither}
use Rattle.exact.proofs.Order.{nat_abs-neg}
use Rattle.rules.specs.declared.Refusal.{Refusal}
use Rattle.rules.specs.Refusals.{unless, or_else, largest_number}

pub inside : (low high k : ℕ) → outside low high k ≡ false → (low ≤ k) × (k ≤ high)
inside low high k e = let (a, b) = neither (ltb k low) (ltb high k) e in (ltb-false k low a, ltb-false high k b)

pub not-outside : (low high k : ℕ) → low ≤ k → k ≤ high → outside low high k ≡ false
not-outside low high k l h = rw (le-ltb k low l) (le-ltb high k h)

module _ {A : Type 0} (r : Refusal) (blank value : A) where
  pub unless-refused : ¬ (r.number ≡ 0) → unless r blank value ≡ blank
  unless-refused n = rw (ne_eqb r.number 0 n)

  pub unless-accepted : r.number ≡ 0 → unless r blank value ≡ value
  unless-accepted z = rw (eq-eqb r.number 0 z)

module _ (r s : Refusal) where
  pub or-refused : ¬ (r.number ≡ 0) → or_else r s ≡ r
  or-refused = unless-refused r r s

  pub or-accepted : r.number ≡ 0 → or_else r s ≡ s
  or-accepted = unless-accepted r r s

  -- where nothing is refused, neither refuses
  pub or-neither : (or_else r s).number ≡ 0 → (r.number ≡ 0) × (s.number ≡ 0)
  or-neither = go (eqb r.number 0) refl
    where
      go : (b : Bool) → eqb r.number 0 ≡ b → (or_else r s).number ≡ 0 → (r.number ≡ 0) × (s.number ≡ 0)
      go true e z = let a = eqb-true r.number 0 e in (a, ap (λ q. q.number) (sym (or-accepted a)) ∙ z)
      go false e z = let n = eqb-false r.number 0 e in absurd (n (ap (λ q. q.number) (sym (or-refused n)) ∙ z))

  pub or_assoc : (t : Refusal) → or_else (or_else r s) t ≡ or_else r (or_else s t)
  or_assoc t = go (eqb r.number 0) refl
    where
      go : (b : Bool) → eqb r.number 0 ≡ b → or_else (or_else r s) t ≡ or_else r (or_else s t)
      go true e = rw e
      go false e = rw (e, e)

-- 0 less a refusal's number is that number negated, and fits
module _ (n : ℕ) where
  pub less : pos 0 -ℤ pos n ≡ neg_ℤ (pos n)
  less = +ℤ_idl (neg_ℤ (pos n))

  pub less-small : n ≤ largest_number → nat_abs (pos 0 -ℤ pos n) < 2 ^ 63
  less-small h = rw (less, nat_abs-neg (pos n)) (omega arith)
