-- The cell is a number with a digit for each level, how many columns of that level agree: below the window it tells every digit.
use mathlib.Core.Path.{◌≡◌, refl, sym, ◌∙◌, ap, ap₂}
use mathlib.Core.Bool.{Bool, true, false, cond, ◌&&◌}
use mathlib.Core.List.{List, [], ◌∷◌, ◌++◌, Memᴰ}
use Prim.Native.Nat.{ℕ, zero, suc, ◌+◌, ◌*◌, ◌≤◌, ◌<◌, min}
use native.Mathlib.Nat.{mul-le-mul_right, suc-mul, mul-one, mul-zero, mul_comm, zero-add}
use native.Mathlib.Decide.{dec_lt}
use native.Mathlib.Omega.{arith}
use borrow.Author.Tests.{eqb-true, eqb-false, eq-eqb, ne_eqb, lt-ltb, le-ltb, ltb-true, ltb-false}
use lib.Dec.{eqb, ltb}
use Rattle.exact.specs.Lists.{from, count}
use Rattle.exact.proofs.Lists.{count_none, count-snoc}
use Rattle.exact.proofs.Numbers.{from-snoc}
use Rattle.cells.specs.Cells.{window, bit, sumℕ, members, stride}

-- ---- sums of natural numbers

module _ {A : Type 0} where
  pub sumℕ-cong-in : (xs : List A) {f g : A → ℕ} → ((x : A) → Memᴰ x xs → f x ≡ g x) → sumℕ xs f ≡ sumℕ xs g
  sumℕ-cong-in [] h = refl
  sumℕ-cong-in (x ∷ xs) {f} {g} h = ap₂ (λ a b. a + b) (h x (Memᴰ.head refl)) (sumℕ-cong-in xs (λ y m. h y (Memᴰ.tail m)))

  pub sumℕ-snoc : (xs : List A) (x : A) (f : A → ℕ) → sumℕ (xs ++ x ∷ []) f ≡ sumℕ xs f + f x
  sumℕ-snoc [] x f = omega arith
  sumℕ-snoc (y ∷ ys) x f = omega (arith, sumℕ-snoc ys x f)

  count_less : (p q : A → Bool) (xs : List A) → count (λ x. p x && q x) xs ≤ count p xs
  count_less p q [] = omega arith
  count_less p q (x ∷ xs) = go (p x) (q x) (count_less p q xs)
    where
      go : (a b : Bool) → count (λ x. p x && q x) xs ≤ count p xs →
          cond (a && b) (suc (count (λ x. p x && q x) xs)) (count (λ x. p x && q x) xs) ≤ cond a (suc (count p xs)) (count p xs)
      go true true h = omega arith
      go true false h = omega arith
      go false b h = h

-- ---- bits

pub cond-bit : (b : Bool) (n : ℕ) → cond b (n + 1) n ≡ n + bit b
cond-bit true n = refl
cond-bit false n = omega arith

pub bit-most : (b : Bool) → bit b ≤ 1
bit-most true = omega arith
bit-most false = omega arith

pub times-bit : (t : ℕ) (b : Bool) → t * bit b ≤ t
times-bit t true = omega arith
times-bit t false = omega arith

-- ---- one column more

pub count_next : (test : ℕ → Bool) (i : ℕ) → count test (from 0 (i + 1)) ≡ count test (from 0 i) + bit (test i)
count_next test i =
    ap (count test) (from-snoc 0 i ∙ ap (λ k. from 0 i ++ k ∷ []) (zero-add i)) ∙ count-snoc test (from 0 i) i ∙ cond-bit (test i) (count test (from 0 i))

pub sumℕ-next : (f : ℕ → ℕ) (i : ℕ) → sumℕ (from 0 (i + 1)) f ≡ sumℕ (from 0 i) f + f i
sumℕ-next f i = ap (λ l. sumℕ l f) (from-snoc 0 i ∙ ap (λ k. from 0 i ++ k ∷ []) (zero-add i)) ∙ sumℕ-snoc (from 0 i) i f

-- ---- one digit more

-- what a column of level l adds below level k + 1: what it adds below level k, or a digit at k
column : (t : ℕ → ℕ) (l k : ℕ) (b : Bool) →
    cond (ltb l (suc k)) (t l * bit b) 0 ≡ cond (ltb l k) (t l * bit b) 0 + cond (eqb k l && b) (t k) 0
column t l k b = go (ltb l k) refl
  where
    at : (b : Bool) → k ≡ l → cond (ltb l (suc k)) (t l * bit b) 0 ≡ cond (eqb k l && b) (t k) 0
    at true e = rw (lt-ltb l (suc k) (omega arith), eq-eqb k l e, e) (mul-one (t l))
    at false e = rw (lt-ltb l (suc k) (omega arith), eq-eqb k l e) (mul-zero (t l))

    go : (c : Bool) → ltb l k ≡ c → cond (ltb l (suc k)) (t l * bit b) 0 ≡ cond c (t l * bit b) 0 + cond (eqb k l && b) (t k) 0
    go true e = let h = ltb-true l k e in rw (lt-ltb l (suc k) (omega arith), ne_eqb k l (omega arith)) (omega arith)
    go false e = more (eqb k l) refl
      where
        more : (d : Bool) → eqb k l ≡ d → cond (ltb l (suc k)) (t l * bit b) 0 ≡ 0 + cond (eqb k l && b) (t k) 0
        more true q = omega (arith, at b (eqb-true k l q))
        more false q =
            let h = ltb-false l k e in let ne : ¬ (k ≡ l) = eqb-false k l q in let past : suc k ≤ l = omega arith in
            rw (le-ltb l (suc k) past, q)

module _ {C : Type 0} (level : C → ℕ) (t : ℕ → ℕ) (a : C → Bool) where
  -- what the columns of a level below k add
  abbrev pub part : ℕ → List C → ℕ
  part k xs = sumℕ xs (λ i. cond (ltb (level i) k) (t (level i) * bit (a i)) 0)

  -- the digit of level s: how many columns of it agree
  abbrev pub digit : ℕ → List C → ℕ
  digit s xs = count (λ i. eqb s (level i) && a i) xs

  pub part_none : (xs : List C) → part 0 xs ≡ 0
  part_none [] = refl
  part_none (x ∷ xs) = rw (le-ltb (level x) 0 (omega arith), part_none xs)

  pub part-next : (k : ℕ) (xs : List C) → part (suc k) xs ≡ part k xs + digit k xs * t k
  part-next k [] = omega arith
  part-next k (x ∷ xs) =
      rw (part-next k xs, column t (level x) k (a x))
      (go (eqb k (level x) && a x) (cond (ltb (level x) k) (t (level x) * bit (a x)) 0) (part k xs) (digit k xs))
    where
      go : (b : Bool) (u v d : ℕ) → u + cond b (t k) 0 + (v + d * t k) ≡ u + v + cond b (suc d) d * t k
      go true u v d = rw (suc-mul d (t k)) (omega arith)
      go false u v d = omega arith

  pub part-all : (k : ℕ) (xs : List C) → ((i : C) → Memᴰ i xs → level i < k) → part k xs ≡ sumℕ xs (λ i. t (level i) * bit (a i))
  part-all k xs h = sumℕ-cong-in xs (λ i m. ap (λ b. cond b (t (level i) * bit (a i)) 0) (lt-ltb (level i) k (h i m)))

  pub digit-none : (k s : ℕ) (xs : List C) → ((i : C) → Memᴰ i xs → level i < k) → k ≤ s → digit s xs ≡ 0
  digit-none k s xs h l = count_none (λ i. eqb s (level i) && a i) xs (λ i m. let q = h i m in ap (λ b. b && a i) (ne_eqb s (level i) (omega arith)))

-- ---- two numbers with the same lowest parts below a stride, and digits above it

less-not : (t u v d e : ℕ) → u < t → d < e → u + d * t ≡ v + e * t → ⊥
less-not t u v d e h l q = let m : suc d * t ≤ e * t = mul-le-mul_right t l in omega (arith, suc-mul d t)

pub same-digit : (t u v d e : ℕ) → u < t → v < t → u + d * t ≡ v + e * t → d ≡ e
same-digit t u v d e h k q = go (dec_lt d e) (dec_lt e d)
  where
    go : Dec (d < e) → Dec (e < d) → d ≡ e
    go (yes l) r = absurd (less-not t u v d e h l q)
    go (no l) (yes r) = absurd (less-not t v u e d k r (sym q))
    go (no l) (no r) = omega arith

no_digit : (t u d : ℕ) → window ≤ t → u + d * t < window → d ≡ 0
no_digit t u zero h l = refl
no_digit t u (suc d) h l = absurd (omega (arith, suc-mul d t))

module _ {C : Type 0} (level : C → ℕ) (cols : List C) where
  abbrev strides : ℕ → ℕ
  strides = stride level cols

  pub stride-next : (s : ℕ) → strides (suc s) ≡ min window (strides s * (members level cols s + 1))
  unfolding stride
  stride-next s = refl

  pub stride-none : strides 0 ≡ 1
  unfolding stride
  stride-none = refl

  pub stride_most : (s : ℕ) → strides s ≤ window
  stride_most zero = omega (arith, stride-none)
  stride_most (suc s) = omega (arith, stride-next s)

  times_more : (t m : ℕ) → t * (m + 1) ≡ t + m * t
  times_more t m = mul_comm t (m + 1) ∙ ap (λ n. n * t) (let e : m + 1 ≡ suc m = omega arith in e) ∙ suc-mul m t ∙ (omega arith)

  -- of the lower levels the columns add less than a stride, as long as strides stay below the window
  pub part_low : (a : C → Bool) (k : ℕ) → strides k < window → part level strides a k cols < strides k
  unfolding members
  part_low a zero h = rw (part_none level strides a cols, stride-none) (omega arith)
  part_low a (suc k) h =
      let t = strides k in let m = members level cols k in
      let e = stride-next k in
      let f = times_more t m in
      let low = part_low a k (omega arith) in
      let n = part-next level strides a k cols in
      let d : digit level strides a k cols * t ≤ m * t = mul-le-mul_right t (count_less (λ i. eqb k (level i)) a cols) in
      omega arith

  -- equal cells have equal digits
  module _ (a b : C → Bool) where
    down : (k : ℕ) → part level strides a (suc k) cols ≡ part level strides b (suc k) cols → part level strides a (suc k) cols < window →
        (digit level strides a k cols ≡ digit level strides b k cols) × (part level strides a k cols ≡ part level strides b k cols)
    down k e h = go (dec_lt (strides k) window)
      where
        u : ℕ
        u = part level strides a k cols

        v : ℕ
        v = part level strides b k cols

        d : ℕ
        d = digit level strides a k cols

        f : ℕ
        f = digit level strides b k cols

        both : u + d * strides k ≡ v + f * strides k
        both = sym (part-next level strides a k cols) ∙ e ∙ part-next level strides b k cols

        go : Dec (strides k < window) → (d ≡ f) × (u ≡ v)
        go (yes l) =
            let q = same-digit (strides k) u v d f (part_low a k l) (part_low b k l) both in
            (q, (let r : d * strides k ≡ f * strides k = ap (λ n. n * strides k) q in omega (arith, both)))
        go (no l) =
            let w = part-next level strides a k cols in
            let x = no_digit (strides k) u d (omega arith) (omega arith) in
            let y = no_digit (strides k) v f (omega arith) (omega (arith, both)) in
            (omega arith, (let r : d * strides k ≡ f * strides k = ap (λ n. n * strides k) (x ∙ sym y) in omega (arith, both)))

    pub digits : (k : ℕ) → part level strides a k cols ≡ part level strides b k cols → part level strides a k cols < window →
        (s : ℕ) → s < k → digit level strides a s cols ≡ digit level strides b s cols
    digits zero e h s l = absurd (omega arith)
    digits (suc k) e h s l =
        let step = down k e h in go (dec_lt s k) step.0 (digits k step.1 (omega (arith, part-next level strides a k cols)) s)
      where
        go : Dec (s < k) → digit level strides a k cols ≡ digit level strides b k cols →
            (s < k → digit level strides a s cols ≡ digit level strides b s cols) → digit level strides a s cols ≡ digit level strides b s cols
        go (yes q) here lower = lower q
        go (no q) here lower = let r : s ≡ k = omega arith in rw r here
