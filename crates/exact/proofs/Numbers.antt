-- The numbers in a row, and where a row of a flat table lies.
use Rattle.exact.proofs.Ground.{List, [], ◌∷◌, map, ◌++◌, Memᴰ, mem-head, mem-tail, mem-not_nil, mem-cases_cons}
use Rattle.exact.proofs.Ground.{◌⊎◌, inl, inr, ◌≡◌, ◌∙◌, sym, ap, refl, subst, fun_ext, ℕ, ◌≤◌, ◌<◌, ◌+◌, ◌*◌, suc, zero, zero-add, mul-le-mul}
use Rattle.exact.proofs.Ground.{add-zero, mul-le-mul_right, suc-mul, eq-or-lt_of_le, arith, length, get_or, length-map}
use native.Mathlib.Nat.{suc-add, add-suc}
use Rattle.exact.specs.Lists.{from}

pub length_from : (a n : ℕ) → length (from a n) ≡ n
length_from a zero = refl
length_from a (suc n) = ap suc (length_from (suc a) n)

pub from-mem : (x a n : ℕ) → a ≤ x → x < a + n → Memᴰ x (from a n)
from-mem x a zero h k = absurd (omega arith)
from-mem x a (suc n) h k = go (eq-or-lt_of_le h) (λ l. from-mem x (suc a) n l (omega arith))
  where
    go : (a ≡ x) ⊎ (a < x) → (suc a ≤ x → Memᴰ x (from (suc a) n)) → Memᴰ x (from a (suc n))
    go (inl e) ih = mem-head (sym e)
    go (inr l) ih = mem-tail (ih l)

pub mem-from : {x : ℕ} (a n : ℕ) → Memᴰ x (from a n) → (a ≤ x) × (x < a + n)
mem-from a zero m = absurd (mem-not_nil m)
mem-from {x} a (suc n) m = go (mem-cases_cons m) (λ l. mem-from (suc a) n l)
  where
    go : (x ≡ a) ⊎ Memᴰ x (from (suc a) n) → (Memᴰ x (from (suc a) n) → (suc a ≤ x) × (x < suc a + n)) → (a ≤ x) × (x < a + suc n)
    go (inl e) ih = omega arith
    go (inr l) ih = omega (arith, ih l)

pub from-add : (a n k : ℕ) → from a (n + k) ≡ from a n ++ from (a + n) k
from-add a zero k = rw (zero-add, add-zero)
from-add a (suc n) k =
    rw (suc-add, add-suc) (ap (λ l. a ∷ l) (from-add (suc a) n k ∙ ap (λ j. from (suc a) n ++ from j k) (suc-add a n)))

pub from_at : (a n k d : ℕ) → k < n → get_or (from a n) k d ≡ a + k
from_at a zero k d h = absurd (omega arith)
from_at a (suc n) zero d h = sym (add-zero a)
from_at a (suc n) (suc k) d h = from_at (suc a) n k d (omega arith) ∙ suc-add a k ∙ sym (add-suc a k)

-- one number more, as a loop's index steps
pub from-snoc : (a n : ℕ) → from a (n + 1) ≡ from a n ++ (a + n) ∷ []
from-snoc a n = from-add a n 1

module _ {A : Type 0} where
  -- a list is what stands at its places, one after the other
  pub map-places : (xs : List A) (d : A) → map (λ k. get_or xs k d) (from 0 (length xs)) ≡ xs
  map-places xs d = go xs 0 (λ k. get_or xs k d) (λ k h. ap (λ j. get_or xs j d) (zero-add k))
    where
      go : (ys : List A) (a : ℕ) (g : ℕ → A) → ((k : ℕ) → k < length ys → g (a + k) ≡ get_or ys k d) → map g (from a (length ys)) ≡ ys
      go [] a g h = refl
      go (y ∷ ys) a g h =
          rw (ap g (sym (add-zero a)) ∙ h 0 (omega arith))
          (ap (λ l. y ∷ l) (go ys (suc a) g (λ k l. ap g (suc-add a k ∙ sym (add-suc a k)) ∙ h (suc k) (omega arith))))

-- ---- a flat table of n rows of m entries

pub row_within : (f n m : ℕ) → f < n → f * m + m ≤ n * m
row_within f n m h = subst (λ (x : ℕ). x ≤ n * m) (suc-mul f m) (mul-le-mul_right m h)

-- explicit, since `omega` proves the premises only where they are determined
pub mul-below : (n m a b : ℕ) → n ≤ a → m ≤ b → n * m ≤ a * b
mul-below n m a b h k = mul-le-mul h k

-- ---- a number of each from a on

module _ {A : Type 0} (F : ℕ → A) where
  pub length-map-from : (a n : ℕ) → length (map F (from a n)) ≡ n
  length-map-from a n = length-map (from a n) F ∙ length_from a n

  pub map-from-at : (a n k : ℕ) (d : A) → k < n → get_or (map F (from a n)) k d ≡ F (a + k)
  map-from-at a zero k d h = absurd (omega arith)
  map-from-at a (suc n) zero d h = ap F (sym (add-zero a))
  map-from-at a (suc n) (suc k) d h = map-from-at (suc a) n k d (omega arith) ∙ ap F (suc-add a k ∙ sym (add-suc a k))

module _ {A : Type 0} {F G : ℕ → A} where
  pub map-from-cong : (a n : ℕ) → ((k : ℕ) → F k ≡ G k) → map F (from a n) ≡ map G (from a n)
  map-from-cong a n h = ap (λ f. map f (from a n)) (fun_ext h)
