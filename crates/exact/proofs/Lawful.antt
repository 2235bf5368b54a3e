-- The comparison of fractions is lawful.
use Rattle.exact.proofs.Ground.{◌≡◌, sym, ap, refl, ℕ, ◌<◌, ◌*◌, arith}
use native.Mathlib.Nat.{lt_of_mul-lt-mul_right, mul-lt-mul_of_pos_right, eq_of_mul-eq-mul_right}
use Rattle.exact.specs.Fractions.{smaller, smaller_fraction}
use Rattle.exact.specs.Lawful.{opposite, Lawful}
use Rattle.exact.proofs.Verdicts.{smaller-ind, smaller-lt, smaller-gt, smaller-eq, lt-smaller, eq-smaller}

-- ---- a / b, c / d and e / f, multiplied across

cross : (a b c d e f : ℕ) → 0 < b → 0 < f → a * d < c * b → c * f < e * d → a * f < e * b
cross a b c d e f hb hf h k =
    let p : a * d * f < c * b * f = mul-lt-mul_of_pos_right h hf in
    let q : c * f * b < e * d * b = mul-lt-mul_of_pos_right k hb in
    lt_of_mul-lt-mul_right d (omega arith)

cross-lt : (a b c d e f : ℕ) → 0 < b → a * d ≡ c * b → c * f < e * d → a * f < e * b
cross-lt a b c d e f hb h k =
    let p : a * d * f ≡ c * b * f = ap (λ n. n * f) h in
    let q : c * f * b < e * d * b = mul-lt-mul_of_pos_right k hb in
    lt_of_mul-lt-mul_right d (omega arith)

cross-gt : (a b c d e f : ℕ) → 0 < b → a * d ≡ c * b → e * d < c * f → e * b < a * f
cross-gt a b c d e f hb h k =
    let p : a * d * f ≡ c * b * f = ap (λ n. n * f) h in
    let q : e * d * b < c * f * b = mul-lt-mul_of_pos_right k hb in
    lt_of_mul-lt-mul_right d (omega arith)

cross-eq : (a b c d e f : ℕ) → 0 < d → a * d ≡ c * b → c * f ≡ e * d → a * f ≡ e * b
cross-eq a b c d e f hd h k =
    let p : a * d * f ≡ c * b * f = ap (λ n. n * f) h in
    let q : c * f * b ≡ e * d * b = ap (λ n. n * b) k in
    eq_of_mul-eq-mul_right d hd (a * f) (e * b) (omega arith)

turned : (a b : ℕ) → smaller b a ≡ opposite (smaller a b)
turned a b =
    smaller-ind a b (λ v. smaller b a ≡ opposite v) (λ h. smaller-gt b a h) (λ h. smaller-lt b a h) (λ h. smaller-eq b a (sym h))

pub fractions : Lawful (λ x. 0 < x.den) smaller_fraction
unfolding smaller_fraction
fractions = record {
  same = λ x p. smaller-eq (x.num * x.den) (x.num * x.den) refl;
  turn = λ x y p q. turned (x.num * y.den) (y.num * x.den);
  trans = λ x y z p q r h k.
      smaller-lt (x.num * z.den) (z.num * x.den)
      (cross x.num x.den y.num y.den z.num z.den p r
      (lt-smaller (x.num * y.den) (y.num * x.den) h) (lt-smaller (y.num * z.den) (z.num * y.den) k));
  alike = λ x y z p q r h.
      let e = eq-smaller (x.num * y.den) (y.num * x.den) h in
      smaller-ind (y.num * z.den) (z.num * y.den) (λ v. smaller (x.num * z.den) (z.num * x.den) ≡ v)
      (λ k. smaller-lt (x.num * z.den) (z.num * x.den) (cross-lt x.num x.den y.num y.den z.num z.den p e k))
      (λ k. smaller-gt (x.num * z.den) (z.num * x.den) (cross-gt x.num x.den y.num y.den z.num z.den p e k))
      (λ k. smaller-eq (x.num * z.den) (z.num * x.den) (cross-eq x.num x.den y.num y.den z.num z.den q e k));
}
