-- How large the words are: |W_j| is at most n² times the product of the levels.
use Rattle.exact.proofs.Ground.{List, [], ◌∷◌, map, Memᴰ, mem-head, mem-tail, ◌≡◌, refl, ℕ, ◌≤◌, ◌<◌, ◌-◌, ◌+◌, ◌*◌, suc, zero}
use Rattle.exact.proofs.Ground.{zero-le, le_trans, mul-le-mul, mul-pos, le_refl, arith, eqb, eqb_refl, pos, ℤ, nat_abs, ◌*ℤ◌, ◌-ℤ◌, negsuc, length}
use native.Mathlib.Nat.{add-le-add, mul-le-mul_left, zero-lt-suc}
use lib.Dec.{T_not}
use Rattle.exact.specs.Lists.{sum, product}
use Rattle.exact.proofs.Order.{nat_abs-+, nat_abs-*, cond_ind, sub-ind}
use Rattle.sets.proofs.Choose.{esp}
use Rattle.pairs.specs.Words.{score, score_at, word, pair_sum, row_sum, diagonal}
use Rattle.pairs.proofs.Laws.{pair-esp, row-pairs, word_rows, diagonal-esp}

module _ {A : Type 0} where
  -- the sum, over the sets of j members, of the product of u over the set
  abbrev espℕ : ℕ → List A → (A → ℕ) → ℕ
  espℕ zero xs u = 1
  espℕ (suc j) [] u = 0
  espℕ (suc j) (x ∷ xs) u = u x * espℕ j xs u + espℕ (suc j) xs u

  esp-size : (j : ℕ) (xs : List A) (f : A → ℤ) (u : A → ℕ) → ((x : A) → Memᴰ x xs → nat_abs (f x) ≤ u x) → nat_abs (esp j xs f) ≤ espℕ j xs u
  esp-size zero xs f u h = le_refl 1
  esp-size (suc j) [] f u h = le_refl 0
  esp-size (suc j) (x ∷ xs) f u h =
      let others : (y : A) → Memᴰ y xs → nat_abs (f y) ≤ u y = λ y m. h y (mem-tail m) in
      le_trans (nat_abs-+ (f x *ℤ esp j xs f) (esp (suc j) xs f))
      (add-le-add (rw nat_abs-* (mul-le-mul (h x (mem-head refl)) (esp-size j xs f u others))) (esp-size (suc j) xs f u others))

one-column : (s e d p : ℕ) → 0 < s → e ≤ p → d ≤ p → (s - 1) * e + d ≤ s * p
one-column zero e d p h a b = absurd (omega arith)
one-column (suc k) e d p h a b = rw (let q : suc k - 1 ≡ k = omega arith in q) (omega (arith, mul-le-mul_left k a))

module _ {A : Type 0} where
  pub product-pos : (xs : List A) (s : A → ℕ) → ((x : A) → Memᴰ x xs → 0 < s x) → 0 < product (map s xs)
  product-pos [] s h = zero-lt-suc 0
  product-pos (x ∷ xs) s h = mul-pos (h x (mem-head refl)) (product-pos xs s (λ y m. h y (mem-tail m)))

  -- one of the terms of the product of 1 + (s - 1)
  espℕ-bound : (j : ℕ) (xs : List A) (s : A → ℕ) → ((x : A) → Memᴰ x xs → 0 < s x) → espℕ j xs (λ x. s x - 1) ≤ product (map s xs)
  espℕ-bound zero xs s h = product-pos xs s h
  espℕ-bound (suc j) [] s h = zero-le
  espℕ-bound (suc j) (x ∷ xs) s h =
      let others : (y : A) → Memᴰ y xs → 0 < s y = λ y m. h y (mem-tail m) in
      one-column (s x) (espℕ j xs (λ x. s x - 1)) (espℕ (suc j) xs (λ x. s x - 1)) (product (map s xs))
      (h x (mem-head refl)) (espℕ-bound j xs s others) (espℕ-bound (suc j) xs s others)

  -- numbers whose sizes are below the levels s
  pub esp-bound : (j : ℕ) (xs : List A) (f : A → ℤ) (s : A → ℕ) → ((x : A) → Memᴰ x xs → nat_abs (f x) < s x) →
      nat_abs (esp j xs f) ≤ product (map s xs)
  esp-bound j xs f s h =
      le_trans (esp-size j xs f (λ x. s x - 1) (λ x m. let b = h x m in omega arith))
      (espℕ-bound j xs s (λ x m. let b = h x m in omega arith))

  pub sum_bound : (xs : List A) (f : A → ℤ) (B : ℕ) → ((x : A) → Memᴰ x xs → nat_abs (f x) ≤ B) → nat_abs (sum xs f) ≤ length xs * B
  sum_bound [] f B h = zero-le
  sum_bound (x ∷ xs) f B h =
      let a = h x (mem-head refl) in let b = sum_bound xs f B (λ y m. h y (mem-tail m)) in
      omega (arith, nat_abs-+ (f x) (sum xs f))

pub less-one : (s : ℕ) → 0 < s → nat_abs (pos s -ℤ pos 1) < s
less-one s h = sub-ind s 1 (λ z. nat_abs z < s) (λ k e. omega arith) (λ k e. omega arith)

pub score-bound : (s a b : ℕ) → a < s → b < s → nat_abs (score s a b) < s
unfolding score
score-bound s a b ha hb = cond_ind (eqb a b) (pos s -ℤ pos 1) (negsuc 0) (λ z. nat_abs z < s)
    (λ t. less-one s (omega arith))
    (λ t. let ne : ¬ (a ≡ b) = λ e. T_not (eqb a b) t (rw e (eqb_refl b)) in omega arith)

module _ {C : Type 0} (level : C → ℕ) (cols : List C) where
  pub diagonal-bound : ((i : C) → Memᴰ i cols → 0 < level i) → (j : ℕ) → nat_abs (diagonal level cols j) ≤ product (map level cols)
  diagonal-bound h j = rw (diagonal-esp level cols j) (esp-bound j cols (λ i. pos (level i) -ℤ pos 1) level (λ i m. less-one (level i) (h i m)))

module _ {R C : Type 0} (level : C → ℕ) (entry : R → C → ℕ) (cols : List C) where
  -- run f has its entries below their levels
  abbrev pub BelowLevels : R → Type 0
  BelowLevels f = (i : C) → Memᴰ i cols → entry f i < level i

  pub pair-bound : (f g : R) → BelowLevels f → BelowLevels g → (j : ℕ) → nat_abs (pair_sum level entry cols j f g) ≤ product (map level cols)
  pair-bound f g hf hg j =
      rw (pair-esp level entry cols j f g)
      (esp-bound j cols (score_at level entry f g) level (λ i m. score-bound (level i) (entry f i) (entry g i) (hf i m) (hg i m)))

  module _ (runs : List R) (valid : (f : R) → Memᴰ f runs → BelowLevels f) where
    pub row-bound : (f : R) → BelowLevels f → (j : ℕ) → nat_abs (row_sum level entry runs cols j f) ≤ length runs * product (map level cols)
    row-bound f h j =
        rw (row-pairs level entry runs cols j f)
        (sum_bound runs (λ g. pair_sum level entry cols j f g) (product (map level cols)) (λ g m. pair-bound f g h (valid g m) j))

    pub word_bound : (j : ℕ) → nat_abs (word level entry runs cols j) ≤ length runs * (length runs * product (map level cols))
    word_bound j =
        rw (word_rows level entry runs cols j)
        (sum_bound runs (row_sum level entry runs cols j) (length runs * product (map level cols)) (λ f m. row-bound f (valid f m) j))
