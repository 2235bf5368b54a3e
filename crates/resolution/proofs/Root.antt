-- q is the smallest whole number for which q² · den is at least 1,000,000 · num; so GR in thousandths is never above the exact GR, and is less
-- than one thousandth below it.
use Rattle.exact.proofs.Ground.{Bool, ◌≡◌, refl, subst, ℕ, ◌≤◌, ◌<◌, ◌-◌, ◌+◌, ◌*◌, suc, zero, dec_lt, arith, T, leb, leb→le}
use borrow.Author.Tests.{leb-false}
use Rattle.exact.specs.Lists.{first}
use Rattle.exact.specs.declared.fractions.Fraction.{Fraction}
use Rattle.exact.proofs.Tests.{is_false}
use Rattle.exact.proofs.Searches.{IsFirst, first-is}
use Rattle.resolution.specs.Resolution.{root_of, thousandths_of}
use Rattle.resolution.specs.Properties.{IsRoot, IsThousandths}

-- whether q² · den is at least 1,000,000 · num
abbrev pub enough : Fraction → ℕ → Bool
enough x q = leb (1_000_000 * x.num) (q * q * x.den)

pub root_is : (x : Fraction) → x.num ≤ x.den → IsRoot x (root_of x)
unfolding root_of
root_is x h = record {
  high = omega (arith, F.within);
  enough = go (root_of x) F.within F.passes;
  close = λ l. below (root_of x - 1) (omega arith);
  least = below;
  zero = λ e. none (root_of x) e below;
}
  where
    F : IsFirst (enough x) 0 1000 (first (enough x) 0 1000)
    F = first-is (enough x) 0 1000

    below : (k : ℕ) → k < root_of x → k * k * x.den < 1_000_000 * x.num
    below k l = leb-false _ _ (is_false (enough x k) (F.none_before k (omega arith) l))

    go : (q : ℕ) → q ≤ 0 + 1000 → (q < 0 + 1000 → T (enough x q)) → 1_000_000 * x.num ≤ q * q * x.den
    go q l p = by (dec_lt q 1000)
      where
        by : Dec (q < 1000) → 1_000_000 * x.num ≤ q * q * x.den
        by (yes k) = leb→le (1_000_000 * x.num) (q * q * x.den) (p (omega arith))
        by (no k) = subst (λ k. 1_000_000 * x.num ≤ k * k * x.den) (let z : 1000 ≡ q = omega arith in z) (omega arith)

    none : (q : ℕ) → x.num ≡ 0 → ((k : ℕ) → k < q → k * k * x.den < 1_000_000 * x.num) → q ≡ 0
    none q e b = by (dec_lt 0 q)
      where
        by : Dec (0 < q) → q ≡ 0
        by (yes l) = absurd (omega (arith, b 0 l))
        by (no l) = omega arith

pub root-unique : (x : Fraction) (q k : ℕ) → IsRoot x q → IsRoot x k → q ≡ k
root-unique x q k I J = go (dec_lt q k) (dec_lt k q)
  where
    go : Dec (q < k) → Dec (k < q) → q ≡ k
    go (yes l) m = absurd (omega (arith, J.least q l, I.enough))
    go (no l) (yes m) = absurd (omega (arith, I.least k m, J.enough))
    go (no l) (no m) = omega arith

pub thousandths-is : (R : ℕ) (x : Fraction) → x.num ≤ x.den → IsThousandths R x (thousandths_of R x)
thousandths-is R x h =
    let I = root_is x h in
    let q = root_of x in
    let same : q ≡ 1000 * (R + 1) - thousandths_of R x = omega (arith, I.high) in
    let less : q - 1 ≡ 1000 * (R + 1) - (thousandths_of R x + 1) = omega (arith, I.high) in
    record {
      not-above = subst (λ k. 1_000_000 * x.num ≤ k * k * x.den) same I.enough;
      close = λ l. subst (λ k. k * k * x.den < 1_000_000 * x.num) less (I.close (some q l I.enough));
      exact = λ e. omega (arith, I.zero e);
    }
  where
    some : (q : ℕ) → 0 < x.num → 1_000_000 * x.num ≤ q * q * x.den → 0 < q
    some zero l e = absurd (omega arith)
    some (suc q) l e = omega arith

-- a loop upward from 0
pub root-start : (x : Fraction) → first (enough x) 0 1000 ≡ root_of x
unfolding root_of
root-start x = refl
