-- A reduced fraction has the value of a / b and no smaller form, and fractions of one value have one reduced form.
use Rattle.exact.proofs.Ground.{◌≡◌, ◌∙◌, sym, subst, ℕ, ◌≤◌, ◌<◌, ◌*◌, ◌/◌, dec_lt, arith}
use Prim.Native.Nat.{◌∣◌}
use native.Mathlib.Nat.{mul_comm, one-mul, eq_of_mul-eq-mul_right, dvd-mul_right, pos_of_dvd_of_pos}
use native.Mathlib.Nat.{div-mul_cancel, div-mul-le_self, le-div_iff_mul-le, div-le_self, div_self, zero-div, mul-div-mul_right}
use Rattle.exact.specs.Fractions.{gcd, zero_fraction, reduced}
use Rattle.exact.proofs.Divisors.{gcd-is, gcd-*, gcd-pos, gcd-zero-left}

module _ (a b : ℕ) where
  left : a / gcd a b * gcd a b ≡ a
  left = div-mul_cancel (gcd a b) (gcd-is a b).left

  right : b / gcd a b * gcd a b ≡ b
  right = div-mul_cancel (gcd a b) (gcd-is a b).right

  pub reduced-num-≤ : (reduced a b).num ≤ a
  unfolding reduced
  reduced-num-≤ = div-le_self a (gcd a b)

  pub reduced-den-≤ : (reduced a b).den ≤ b
  unfolding reduced
  reduced-den-≤ = div-le_self b (gcd a b)

  -- what is at most 1 stays so
  pub reduced-at-most-one : a ≤ b → (reduced a b).num ≤ (reduced a b).den
  unfolding reduced
  reduced-at-most-one h = go (dec_lt 0 b)
    where
      go : Dec (0 < b) → a / gcd a b ≤ b / gcd a b
      go (yes l) = (le-div_iff_mul-le (gcd-pos a b l)).1 (omega (arith, div-mul-le_self a (gcd a b)))
      go (no l) = omega (arith, div-le_self a (gcd a b))

  -- the value is kept
  pub reduced-value : (reduced a b).num * b ≡ a * (reduced a b).den
  unfolding reduced
  reduced-value = across (a / gcd a b) (b / gcd a b) (gcd a b) a b left right
    where
      across : (n d g a b : ℕ) → n * g ≡ a → d * g ≡ b → n * b ≡ a * d
      across n d g a b e f = rw (← e, ← f) (omega arith)

  pub reduced-den-pos : 0 < b → 0 < (reduced a b).den
  unfolding reduced
  reduced-den-pos h = pos_of_dvd_of_pos (subst (λ n. b / gcd a b ∣ n) right (dvd-mul_right (b / gcd a b) (gcd a b))) h

  pub reduced-lowest : 0 < b → gcd (reduced a b).num (reduced a b).den ≡ 1
  unfolding reduced
  reduced-lowest h =
      let g = gcd a b in
      eq_of_mul-eq-mul_right g (gcd-pos a b h) (gcd (a / g) (b / g)) 1
      (sym (gcd-* (a / g) (b / g) g (gcd-pos a b h)) ∙ rw (left, right) (sym (one-mul g)))

pub reduced-zero : (b : ℕ) → 0 < b → reduced 0 b ≡ zero_fraction
unfolding reduced
reduced-zero b h = rw (gcd-zero-left b, zero-div b, div_self h)

reduced-* : (a b k : ℕ) → 0 < k → reduced (a * k) (b * k) ≡ reduced a b
unfolding reduced
reduced-* a b k l = rw (gcd-* a b k l, mul-div-mul_right a (gcd a b) l, mul-div-mul_right b (gcd a b) l)

-- two fractions of the same value have the same reduced form
pub reduced-same : (a b c d : ℕ) → 0 < b → 0 < d → a * d ≡ c * b → reduced a b ≡ reduced c d
reduced-same a b c d h l e = sym (reduced-* a b d l) ∙ rw (e, mul_comm b d) (reduced-* c d b h)
