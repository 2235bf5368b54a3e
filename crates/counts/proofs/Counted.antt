-- Every run has one combination, so the counts of all combinations come to the number of runs; where they are alike, each is that number
-- over the product of the levels. So columns with more combinations than runs are not even.
use Rattle.exact.proofs.Ground.{false, cond, List, [], ◌∷◌, map, Memᴰ, mem-head, mem-tail, mem-not_nil, mem-map}
use Rattle.exact.proofs.Ground.{mem-cases_cons, ◌⊎◌, inl, inr, ◌≡◌, ◌∙◌, sym, ap, refl, subst, ℕ, ◌≤◌, ◌<◌, ◌+◌, ◌*◌, suc, zero, dec_lt, suc-mul}
use Rattle.exact.proofs.Ground.{zero-mul, arith, eqb, T, eqb→eq, length, ne_eqb, eq-eqb}
use native.Mathlib.Nat.{mul-zero}
use Rattle.exact.specs.Lists.{from, all, alike}
use Rattle.exact.proofs.Numbers.{from-mem}
use Rattle.exact.proofs.Rooms.{length-numbered}
use Rattle.exact.proofs.Tests.{both, is_false, all-mem}
use Rattle.counts.specs.Counts.{even}
use Rattle.counts.specs.Numbered.{product_of, number_of, tally_of}
use Rattle.counts.proofs.Numbered.{Below, number-below, even-numbered}

-- the counts together
abbrev total : List ℕ → ℕ
total [] = 0
total (x ∷ xs) = x + total xs

-- one more at each number that is x
abbrev raised : ℕ → (ℕ → ℕ) → ℕ → ℕ
raised x g k = cond (eqb x k) (suc (g k)) (g k)

total-later : (x : ℕ) (g : ℕ → ℕ) (a n : ℕ) → x < a → total (map (raised x g) (from a n)) ≡ total (map g (from a n))
total-later x g a zero h = refl
total-later x g a (suc n) h =
    rw (ne_eqb x a (λ e. omega arith), total-later x g (suc a) n (omega arith))

total-raised : (x : ℕ) (g : ℕ → ℕ) (a n : ℕ) → a ≤ x → x < a + n → total (map (raised x g) (from a n)) ≡ suc (total (map g (from a n)))
total-raised x g a zero h k = absurd (omega arith)
total-raised x g a (suc n) h k = go (dec_lt a x) (λ l. total-raised x g (suc a) n l (omega arith))
  where
    go : Dec (a < x) → (suc a ≤ x → total (map (raised x g) (from (suc a) n)) ≡ suc (total (map g (from (suc a) n)))) →
        total (map (raised x g) (from a (suc n))) ≡ suc (total (map g (from a (suc n))))
    go (yes l) ih = rw (ne_eqb x a (λ e. omega arith), ih l) (omega arith)
    go (no l) ih = let e : x ≡ a = omega arith in
        rw (eq-eqb x a e, total-later x g (suc a) n (omega arith)) (omega arith)

total-none : (a n : ℕ) → total (map (λ k. 0) (from a n)) ≡ 0
total-none a zero = refl
total-none a (suc n) = rw (total-none (suc a) n)

all-total : (x : ℕ) (ys : List ℕ) → T (all ys (λ y. eqb x y)) → total ys ≡ length ys * x
all-total x [] t = rw zero-mul
all-total x (y ∷ ys) t = let (s, r) = both (eqb x y) (all ys (λ y. eqb x y)) t in
    rw (suc-mul, sym (eqb→eq x y s), all-total x ys r) (omega arith)

-- equal numbers are all the first
pub alike-first : (y : ℕ) (ys : List ℕ) → T (alike (y ∷ ys)) → (x : ℕ) → Memᴰ x (y ∷ ys) → y ≡ x
alike-first y ys t x m = go (mem-cases_cons m)
  where
    go : (x ≡ y) ⊎ Memᴰ x ys → y ≡ x
    go (inl e) = sym e
    go (inr n) = eqb→eq y x (all-mem (λ y'. eqb y y') ys t x n)

alike-total : (xs : List ℕ) → T (alike xs) → (x : ℕ) → Memᴰ x xs → total xs ≡ length xs * x
alike-total [] t x m = absurd (mem-not_nil m)
alike-total (y ∷ ys) t x m = rw (suc-mul, all-total y ys t, alike-first y ys t x m) (omega arith)

module _ {R C : Type 0} (level : C → ℕ) (entry : R → C → ℕ) where
  pub total-tallies : (rs : List R) (J : List C) → Below level entry rs J →
      total (map (tally_of level entry rs J) (from 0 (product_of level J))) ≡ length rs
  total-tallies [] J v = total-none 0 (product_of level J)
  total-tallies (f ∷ rs) J v =
      total-raised (number_of level entry f J) (tally_of level entry rs J) 0 (product_of level J)
      (omega arith) (omega (arith, number-below level entry (f ∷ rs) J v f (mem-head refl)))
      ∙ ap suc (total-tallies rs J (λ g m. v g (mem-tail m)))

  module _ (rs : List R) (J : List C) (v : Below level entry rs J) where
    -- each combination of even columns occurs n times over the product of the levels
    pub even-count : T (even level entry rs J) → (k : ℕ) → k < product_of level J → product_of level J * tally_of level entry rs J k ≡ length rs
    even-count t k h =
        let P = product_of level J in
        let n = tally_of level entry rs J in
        let m : Memᴰ (n k) (map n (from 0 P)) = mem-map n (from-mem k 0 P (omega arith) (omega arith)) in
        ap (λ l. l * n k) (sym (length-numbered n P))
        ∙ sym (alike-total (map n (from 0 P)) (subst T (even-numbered level entry rs J v) t) (n k) m)
        ∙ total-tallies rs J v

    pub too_many : 0 < length rs → length rs < product_of level J → even level entry rs J ≡ false
    too_many h l = is_false (even level entry rs J) (λ t. go (tally_of level entry rs J 0) (even-count t 0 (omega arith)))
      where
        go : (x : ℕ) → product_of level J * x ≡ length rs → ⊥
        go zero e = omega (arith, mul-zero (product_of level J))
        go (suc x) e = omega arith
