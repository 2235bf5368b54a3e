-- The searches find what they look for, and a loop's turns of them.
use Rattle.exact.proofs.Ground.{true, false, Bool, cond, ◌≡◌, ◌∙◌, ap, refl, subst, ℕ, ◌≤◌, ◌<◌, ◌-◌, ◌+◌, suc, zero, dec_lt, add-one, arith, T}
use Rattle.exact.proofs.Ground.{ltb, ltb→lt}
use lib.Dec.{nltb→le}
use Rattle.exact.specs.Lists.{first, largest}

-- ---- the first that passes

-- r is the first of the n numbers from a on that passes
pub record IsFirst (test : ℕ → Bool) (a n r : ℕ) : Type 0 where
  pub from-a : a ≤ r
  pub within : r ≤ a + n
  pub passes : r < a + n → T (test r)
  pub none_before : (k : ℕ) → a ≤ k → k < r → ¬ (T (test k))

pub first-is : (test : ℕ → Bool) (a n : ℕ) → IsFirst test a n (first test a n)
first-is test a zero =
    record { from-a = omega arith; within = omega arith; passes = λ h. absurd (omega arith); none_before = λ k h l. absurd (omega arith) }
first-is test a (suc n) = go (test a) refl (first-is test (suc a) n)
  where
    go : (b : Bool) → test a ≡ b → IsFirst test (suc a) n (first test (suc a) n) → IsFirst test a (suc n) (cond b a (first test (suc a) n))
    go true e I = record { from-a = omega arith; within = omega arith; passes = λ h. rw e tt; none_before = λ k h l. absurd (omega arith) }
    go false e I = record {
      from-a = omega (arith, I.from-a);
      within = omega (arith, I.within);
      passes = λ h. I.passes (omega arith);
      none_before = λ k h l t. later k h l t (ltb a k) refl;
    }
      where
        later : (k : ℕ) → a ≤ k → k < first test (suc a) n → T (test k) → (b : Bool) → ltb a k ≡ b → ⊥
        later k h l t true q = I.none_before k (ltb→lt a k (rw q tt)) l t
        later k h l t false q = subst T (ap test (let r : k ≡ a = omega (arith, nltb→le a k (rw q tt)) in r) ∙ e) t

-- so what a loop leaves behind it is enough to name the number that it found
pub first-unique : (test : ℕ → Bool) (a n r s : ℕ) → IsFirst test a n r → IsFirst test a n s → r ≡ s
first-unique test a n r s I J = go (dec_lt r s) (dec_lt s r)
  where
    go : Dec (r < s) → Dec (s < r) → r ≡ s
    go (yes l) q = absurd (J.none_before r I.from-a l (I.passes (omega (arith, J.within))))
    go (no l) (yes k) = absurd (I.none_before s J.from-a k (J.passes (omega (arith, I.within))))
    go (no l) (no k) = omega arith

-- a loop upward: what is left to search, from the present number on, is what the whole search finds
pub first_found : (test : ℕ → Bool) (a n : ℕ) → 0 < n → test a ≡ true → first test a n ≡ a
first_found test a zero h e = absurd (omega arith)
first_found test a (suc n) h e = rw e

pub first-later : (test : ℕ → Bool) (a n : ℕ) → 0 < n → test a ≡ false → first test a n ≡ first test (a + 1) (n - 1)
first-later test a zero h e = absurd (omega arith)
first-later test a (suc n) h e = let d : suc n - 1 ≡ n = omega arith in rw (e, d, add-one)

pub first-none : (test : ℕ → Bool) (a n : ℕ) → n ≡ 0 → first test a n ≡ a
first-none test a n e = rw e

-- ---- the largest that passes

-- t is the largest number from 1 to n that passes, and 0 where none does
pub record IsLargest (test : ℕ → Bool) (n t : ℕ) : Type 0 where
  pub within : t ≤ n
  pub passes : 0 < t → T (test t)
  pub most : (k : ℕ) → k ≤ n → T (test k) → k ≤ t

pub largest-is : (test : ℕ → Bool) (n : ℕ) → IsLargest test n (largest test n)
largest-is test zero = record { within = omega arith; passes = λ h. absurd (omega arith); most = λ k h t. h }
largest-is test (suc n) = go (test (suc n)) refl (largest-is test n)
  where
    go : (b : Bool) → test (suc n) ≡ b → IsLargest test n (largest test n) → IsLargest test (suc n) (cond b (suc n) (largest test n))
    go true e I = record { within = omega arith; passes = λ h. rw e tt; most = λ k h t. h }
    go false e I = record { within = omega (arith, I.within); passes = I.passes; most = λ k h t. lower k h t (ltb n k) refl }
      where
        lower : (k : ℕ) → k ≤ suc n → T (test k) → (b : Bool) → ltb n k ≡ b → k ≤ largest test n
        lower k h t true q = absurd (subst T (ap test (let r : k ≡ suc n = omega (arith, ltb→lt n k (rw q tt)) in r) ∙ e) t)
        lower k h t false q = I.most k (nltb→le n k (rw q tt)) t

pub largest-unique : (test : ℕ → Bool) (n t u : ℕ) → IsLargest test n t → IsLargest test n u → t ≡ u
largest-unique test n t u I J = go (dec_lt t u) (dec_lt u t)
  where
    go : Dec (t < u) → Dec (u < t) → t ≡ u
    go (yes l) q = absurd (let h = I.most u J.within (J.passes (omega arith)) in omega arith)
    go (no l) (yes k) = absurd (let h = J.most t I.within (I.passes (omega arith)) in omega arith)
    go (no l) (no k) = omega arith
