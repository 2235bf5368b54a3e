-- The smaller number is better, and the smaller fraction: by the quotients, and where they are equal by what is left of the numerators.
use Rattle.exact.proofs.Ground.{true, false, Bool, cond, not, ◌≡◌, ◌∙◌, sym, ap, refl, subst, ℕ, ◌≤◌, ◌<◌, ◌-◌, ◌+◌, ◌*◌, ◌^◌, ◌/◌, ◌%◌}
use Rattle.exact.proofs.Ground.{mul-le-mul_right, arith, T, ltb, ltb→lt}
use native.Mathlib.Nat.{le_antisymm, add-mul, mul_right_comm, mul-lt-mul_of_pos_right}
use native.Mathlib.Nat.{mod-lt, div-add-mod', div-mul-le_self, div-lt_iff_lt-mul}
use lib.Dec.{nltb→le}
use Rattle.exact.specs.declared.fractions.Fraction.{Fraction}
use Rattle.exact.specs.declared.fractions.Verdict.{Verdict}
use Rattle.exact.specs.declared.fractions.Verdict.TheVariants.{Better, Worse, Equal}
use Rattle.exact.specs.Fractions.{then, smaller, smaller_fraction, ShortDenominator}
use Rattle.exact.proofs.Numbers.{mul-below}

-- ---- the smaller number is better

pub smaller-ind : (a b : ℕ) (P : Verdict → Type 0) → (a < b → P Better) → (b < a → P Worse) → (a ≡ b → P Equal) → P (smaller a b)
smaller-ind a b P f g h = go (ltb a b) (ltb b a) (λ t. ltb→lt a b t) (λ t. ltb→lt b a t) (λ t. nltb→le a b t) (λ t. nltb→le b a t)
  where
    go : (p q : Bool) → (T p → a < b) → (T q → b < a) → (T (not p) → b ≤ a) → (T (not q) → a ≤ b) → P (cond p Better (cond q Worse Equal))
    go true q i j k l = f (i tt)
    go false true i j k l = g (j tt)
    go false false i j k l = h (le_antisymm (l tt) (k tt))

pub smaller-lt : (a b : ℕ) → a < b → smaller a b ≡ Better
smaller-lt a b h = smaller-ind a b (λ v. v ≡ Better) (λ k. refl) (λ k. absurd (omega arith)) (λ k. absurd (omega arith))

pub smaller-gt : (a b : ℕ) → b < a → smaller a b ≡ Worse
smaller-gt a b h = smaller-ind a b (λ v. v ≡ Worse) (λ k. absurd (omega arith)) (λ k. refl) (λ k. absurd (omega arith))

pub smaller-eq : (a b : ℕ) → a ≡ b → smaller a b ≡ Equal
smaller-eq a b h = smaller-ind a b (λ v. v ≡ Equal) (λ k. absurd (omega arith)) (λ k. absurd (omega arith)) (λ k. refl)

-- what a verdict says of two numbers
abbrev Says : ℕ → ℕ → Verdict → Type 0
Says a b Better = a < b
Says a b Worse = b < a
Says a b Equal = a ≡ b

smaller-says : (a b : ℕ) → Says a b (smaller a b)
smaller-says a b = smaller-ind a b (Says a b) (λ h. h) (λ h. h) (λ h. h)

pub lt-smaller : (a b : ℕ) → smaller a b ≡ Better → a < b
lt-smaller a b e = subst (Says a b) e (smaller-says a b)

pub gt-smaller : (a b : ℕ) → smaller a b ≡ Worse → b < a
gt-smaller a b e = subst (Says a b) e (smaller-says a b)

pub eq-smaller : (a b : ℕ) → smaller a b ≡ Equal → a ≡ b
eq-smaller a b e = subst (Says a b) e (smaller-says a b)

-- the same on both sides changes nothing
smaller-+ : (k a b : ℕ) → smaller (k + a) (k + b) ≡ smaller a b
smaller-+ k a b =
    smaller-ind a b (λ v. smaller (k + a) (k + b) ≡ v) (λ h. smaller-lt (k + a) (k + b) (omega arith))
    (λ h. smaller-gt (k + a) (k + b) (omega arith)) (λ h. smaller-eq (k + a) (k + b) (omega arith))

-- ---- fractions a / b and c / d, by their quotients and what is left

quotient-lt : (a b c d : ℕ) → 0 < b → 0 < d → a / b < c / d → a * d < c * b
quotient-lt a b c d p q h =
    let below : a * d < c / d * b * d = mul-lt-mul_of_pos_right ((div-lt_iff_lt-mul p).0 h) q in
    let within : c / d * d * b ≤ c * b = mul-le-mul_right b (div-mul-le_self c d) in
    omega arith

-- a * d, taken apart at b
parted : (a b d : ℕ) → a * d ≡ a / b * b * d + a % b * d
parted a b d = ap (λ n. n * d) (sym (div-add-mod' a b)) ∙ add-mul (a / b * b) (a % b) d

quotient-eq : (a b c d : ℕ) → a / b ≡ c / d → c * b ≡ a / b * b * d + c % d * b
quotient-eq a b c d e = parted c d b ∙ ap (λ n. n + c % d * b) (ap (λ n. n * d * b) (sym e) ∙ mul_right_comm (a / b) d b)

by-quotients : (a b c d : ℕ) → 0 < b → 0 < d →
    smaller (a * d) (c * b) ≡ then (smaller (a / b) (c / d)) (smaller (a % b * d) (c % d * b))
by-quotients a b c d p q =
    smaller-ind (a / b) (c / d) (λ v. smaller (a * d) (c * b) ≡ then v (smaller (a % b * d) (c % d * b)))
    (λ h. smaller-lt (a * d) (c * b) (quotient-lt a b c d p q h))
    (λ h. smaller-gt (a * d) (c * b) (quotient-lt c d a b q p h))
    (λ h. rw (parted a b d, quotient-eq a b c d h) (smaller-+ (a / b * b * d) (a % b * d) (c % d * b)))

-- what is left of a numerator, times the other denominator, fits
pub rest-fits : (x y : Fraction) → ShortDenominator x → ShortDenominator y → x.num % x.den * y.den < 2 ^ 64
rest-fits x y p q =
    let rest : x.num % x.den < x.den = mod-lt x.num p.above_zero in
    omega (arith, mul-below (x.num % x.den) y.den (2 ^ 32 - 1) (2 ^ 32 - 1) (omega (arith, p.short)) (omega (arith, q.short)))

module _ (x y : Fraction) (p : ShortDenominator x) (q : ShortDenominator y) where
  pub quotients-differ : ¬ (x.num / x.den ≡ y.num / y.den) → smaller (x.num / x.den) (y.num / y.den) ≡ smaller_fraction x y
  unfolding smaller_fraction
  quotients-differ n =
      let rest = smaller (x.num % x.den * y.den) (y.num % y.den * x.den) in
      sym (by-quotients x.num x.den y.num y.den p.above_zero q.above_zero
      ∙ smaller-ind (x.num / x.den) (y.num / y.den) (λ v. then v rest ≡ v) (λ h. refl) (λ h. refl) (λ e. absurd (n e)))

  pub quotients_equal : x.num / x.den ≡ y.num / y.den → smaller (x.num % x.den * y.den) (y.num % y.den * x.den) ≡ smaller_fraction x y
  unfolding smaller_fraction
  quotients_equal e =
      let rest = smaller (x.num % x.den * y.den) (y.num % y.den * x.den) in
      sym (by-quotients x.num x.den y.num y.den p.above_zero q.above_zero
      ∙ ap (λ v. then v rest) (smaller-eq (x.num / x.den) (y.num / y.den) e))
