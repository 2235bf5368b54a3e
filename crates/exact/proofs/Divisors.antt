-- The greatest common divisor of the definition, the largest number that divides both, is the one that every common divisor divides.
use Rattle.exact.proofs.Ground.{◌⊎◌, inl, inr, ◌≡◌, sym, subst, ℕ, ◌≤◌, ◌<◌, ◌*◌, suc, zero, ◌/◌, ◌%◌, le_trans, arith, eqb, T, eqb→eq, eq-eqb}
use Prim.Native.Nat.{◌∣◌, max}
use native.Mathlib.Nat.{mod-lt, dvd-mod_iff, dvd_refl, dvd-zero, dvd-mul_left, dvd_antisymm, le_of_dvd, eq-zero-or-pos, pos_of_dvd_of_pos}
use native.Mathlib.Nat.{mod-eq-zero_of_dvd, dvd_of_mod-eq-zero, mul-dvd-mul_right, dvd_of_mul-dvd-mul_right, div-mul_cancel, eq-zero_of_zero-dvd}
use native.Mathlib.Nat.{le-max_left, le-max_right, max-le}
use Rattle.exact.specs.Fractions.{divides_both, gcd}
use Rattle.exact.proofs.Tests.{both, join, true-is}
use Rattle.exact.proofs.Searches.{IsLargest, largest-is, largest-unique}

-- g divides both, and what divides both divides g
pub record IsGcd (a b g : ℕ) : Type 0 where
  pub left : g ∣ a
  pub right : g ∣ b
  pub most : (d : ℕ) → d ∣ a → d ∣ b → d ∣ g

-- ---- Euclid: b and the rest of a have the same common divisors as a and b

rest : {a b g : ℕ} → IsGcd b (a % b) g → IsGcd a b g
rest {g} I = record {
  left = (dvd-mod_iff g I.left).0 I.right;
  right = I.left;
  most = λ d p q. I.most d q ((dvd-mod_iff d q).1 p);
}

alone : (a : ℕ) → IsGcd a 0 a
alone a = record { left = dvd_refl a; right = dvd-zero a; most = λ d p q. p }

euclid : (n a b : ℕ) → b ≤ n → (g : ℕ) × IsGcd a b g
euclid zero a b h = (a, subst (λ k. IsGcd a k a) (let e : 0 ≡ b = omega arith in e) (alone a))
euclid (suc n) a b h = go (eq-zero-or-pos b) (λ l. euclid n b (a % b) l)
  where
    go : (b ≡ 0) ⊎ (0 < b) → (a % b ≤ n → (g : ℕ) × IsGcd b (a % b) g) → (g : ℕ) × IsGcd a b g
    go (inl e) ih = (a, subst (λ k. IsGcd a k a) (sym e) (alone a))
    go (inr l) ih = let (g, I) = ih (omega (arith, mod-lt a l)) in (g, rest I)

-- ---- the definition's number

divides : (d a b : ℕ) → T (divides_both a b d) → (d ∣ a) × (d ∣ b)
divides d a b t =
    let (p, q) = both (eqb (a % d) 0) (eqb (b % d) 0) t in
    (dvd_of_mod-eq-zero d (eqb→eq (a % d) 0 p), dvd_of_mod-eq-zero d (eqb→eq (b % d) 0 q))

passes : (d a b : ℕ) → d ∣ a → d ∣ b → T (divides_both a b d)
passes d a b p q =
    join (eqb (a % d) 0) (eqb (b % d) 0) (true-is _ (eq-eqb (a % d) 0 (mod-eq-zero_of_dvd d p)))
    (true-is _ (eq-eqb (b % d) 0 (mod-eq-zero_of_dvd d q)))

-- a common divisor that every other divides is the largest
found : {a b g : ℕ} → IsGcd a b g → IsLargest (divides_both a b) (max a b) g
found {a} {b} {g} I = go (eq-zero-or-pos a) (eq-zero-or-pos b)
  where
    some : (n : ℕ) → 0 < n → g ∣ n → n ≤ max a b → IsLargest (divides_both a b) (max a b) g
    some n l p h = record {
      within = le_trans (le_of_dvd l p) h;
      passes = λ k. passes g a b I.left I.right;
      most = λ d m t. let (p', q') = divides d a b t in le_of_dvd (pos_of_dvd_of_pos p l) (I.most d p' q');
    }

    none : a ≡ 0 → b ≡ 0 → IsLargest (divides_both a b) (max a b) g
    none e f = let m : max a b ≤ 0 = max-le (omega arith) (omega arith) in
        let z : g ≡ 0 = eq-zero_of_zero-dvd (I.most 0 (rw e (dvd_refl 0)) (rw f (dvd_refl 0))) in
        record { within = omega arith; passes = λ k. absurd (omega arith); most = λ d h t. omega arith }

    go : (a ≡ 0) ⊎ (0 < a) → (b ≡ 0) ⊎ (0 < b) → IsLargest (divides_both a b) (max a b) g
    go (inr l) k = some a l I.left (le-max_left a b)
    go (inl e) (inr l) = some b l I.right (le-max_right a b)
    go (inl e) (inl f) = none e f

-- so the number is the only one of that kind
pub gcd-unique : {a b g : ℕ} → IsGcd a b g → gcd a b ≡ g
unfolding gcd
gcd-unique {a} {b} {g} I = largest-unique (divides_both a b) (max a b) (gcd a b) g (largest-is (divides_both a b) (max a b)) (found I)

pub gcd-is : (a b : ℕ) → IsGcd a b (gcd a b)
gcd-is a b = let (g, I) = euclid b a b (omega arith) in subst (IsGcd a b) (sym (gcd-unique I)) I

-- ---- a turn of Euclid's loop, and its end

pub gcd-step : (a b : ℕ) → gcd a b ≡ gcd b (a % b)
gcd-step a b = gcd-unique (rest (gcd-is b (a % b)))

pub gcd-zero : (a : ℕ) → gcd a 0 ≡ a
gcd-zero a = gcd-unique (alone a)

-- ---- of multiples

pub gcd-pos : (a b : ℕ) → 0 < b → 0 < gcd a b
gcd-pos a b h = pos_of_dvd_of_pos (gcd-is a b).right h

pub gcd-zero-left : (b : ℕ) → gcd 0 b ≡ b
gcd-zero-left b = gcd-unique (record { left = dvd-zero b; right = dvd_refl b; most = λ d p q. q })

-- a common factor is a factor of the greatest common divisor
pub gcd-* : (a b k : ℕ) → 0 < k → gcd (a * k) (b * k) ≡ gcd a b * k
gcd-* a b k h =
    let G = gcd-is a b in
    let K = gcd-is (a * k) (b * k) in
    let g = gcd (a * k) (b * k) in
    let whole : g / k * k ≡ g = div-mul_cancel k (K.most k (dvd-mul_left k a) (dvd-mul_left k b)) in
    let part : (n : ℕ) → g ∣ n * k → g / k ∣ n = λ n p. dvd_of_mul-dvd-mul_right (g / k) h (subst (λ m. m ∣ n * k) (sym whole) p) in
    dvd_antisymm
    (subst (λ m. m ∣ gcd a b * k) whole (mul-dvd-mul_right (g / k) (G.most (g / k) (part a K.left) (part b K.right)) k))
    (K.most (gcd a b * k) (mul-dvd-mul_right (gcd a b) G.left k) (mul-dvd-mul_right (gcd a b) G.right k))
