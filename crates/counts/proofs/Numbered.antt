-- The combinations of some columns have the numbers 0, 1, 2 and so on, so that they can be counted in an array.
use Rattle.exact.proofs.Ground.{Bool, ◌&&◌, List, [], ◌∷◌, map, Memᴰ, mem-head, mem-tail, mem-not_nil, mem-of_map}
use Rattle.exact.proofs.Ground.{mem-append_cases, ◌⊎◌, inl, inr, ◌≡◌, ◌∙◌, sym, ap, refl, subst, ℕ, ◌<◌, ◌+◌, ◌*◌, suc, zero, dec_lt, add-zero}
use Rattle.exact.proofs.Ground.{mul-le-mul_right, suc-mul, zero-mul, arith, eqb, T, eqb→eq, eqb_refl}
use mathlib.Core.List.{map-map, map-append}
use native.Mathlib.Nat.{add-suc, zero-lt-suc, add_comm}
use Rattle.exact.specs.Lists.{from, each, alike, count}
use Rattle.exact.proofs.Numbers.{from-add, mem-from}
use Rattle.exact.proofs.Tests.{both, join, iff-eq}
use Rattle.exact.proofs.Lists.{map-cong-in}
use Rattle.counts.specs.Counts.{combinations, shows, tally, even}
use Rattle.counts.specs.Numbered.{product_of, number_of, tally_of}

-- ---- lists

module _ {A B : Type 0} where
  mem-each : (xs : List A) (g : A → List B) (y : B) → Memᴰ y (each xs g) → (x : A) × Memᴰ x xs × Memᴰ y (g x)
  mem-each [] g y m = absurd (mem-not_nil m)
  mem-each (x ∷ xs) g y m = go (mem-append_cases (g x) m) (mem-each xs g y)
    where
      go : Memᴰ y (g x) ⊎ Memᴰ y (each xs g) → (Memᴰ y (each xs g) → (z : A) × Memᴰ z xs × Memᴰ y (g z)) →
          (z : A) × Memᴰ z (x ∷ xs) × Memᴰ y (g z)
      go (inl n) f = (x, mem-head refl, n)
      go (inr n) f = let (z, k, l) = f n in (z, mem-tail k, l)

module _ {A : Type 0} where
  pub count-cong-in : (xs : List A) {p q : A → Bool} → ((x : A) → Memᴰ x xs → p x ≡ q x) → count p xs ≡ count q xs
  count-cong-in [] h = refl
  count-cong-in (x ∷ xs) {p} {q} h =
      rw (h x (mem-head refl), count-cong-in xs {p = p} {q = q} (λ y m. h y (mem-tail m)))

from-shift : (b a n : ℕ) → map (λ k. b + k) (from a n) ≡ from (b + a) n
from-shift b a zero = refl
from-shift b a (suc n) = ap (λ l. (b + a) ∷ l) (from-shift b (suc a) n ∙ ap (λ k. from k n) (add-suc b a))

-- ---- a number is told by its digits

digit : (p x k a l : ℕ) → k < p → l < p → x * p + k ≡ a * p + l → x ≡ a
digit p x k a l h g e = go (dec_lt x a) (dec_lt a x)
  where
    go : Dec (x < a) → Dec (a < x) → x ≡ a
    go (yes q) d = absurd (omega (arith, mul-le-mul_right p q))
    go (no q) (yes r) = absurd (omega (arith, mul-le-mul_right p r))
    go (no q) (no r) = omega arith

eq→eqb : {m n : ℕ} → m ≡ n → T (eqb m n)
eq→eqb {m} {n} e = rw e (eqb_refl n)

pub digits : (p x k a l : ℕ) → k < p → l < p → eqb (x * p + k) (a * p + l) ≡ (eqb x a && eqb k l)
digits p x k a l h g = iff-eq (eqb (x * p + k) (a * p + l)) (eqb x a && eqb k l)
    (λ t.
    let e = eqb→eq (x * p + k) (a * p + l) t in let d = digit p x k a l h g e in
    join (eqb x a) (eqb k l) (eq→eqb d) (eq→eqb (let q : k ≡ l = omega (arith, ap (λ z. z * p) d) in q)))
    (λ t. let (s, r) = both (eqb x a) (eqb k l) t in rw (eqb→eq x a s, eqb→eq k l r) (eqb_refl (a * p + l)))

-- ---- the numbers of the combinations

module _ {C : Type 0} (level : C → ℕ) where
  -- the number of the combination P of the columns J
  abbrev pub place : List C → List ℕ → ℕ
  place [] P = 0
  place (i ∷ J) [] = 0
  place (i ∷ J) (a ∷ P) = a * product_of level J + place J P

  pub mem-combinations : (i : C) (J : List C) (Q : List ℕ) → Memᴰ Q (combinations level (i ∷ J)) →
      (a : ℕ) × (P : List ℕ) × (a < level i) × Memᴰ P (combinations level J) × (a ∷ P ≡ Q)
  mem-combinations i J Q m =
      let (a, k, n) = mem-each (from 0 (level i)) (λ a. map (λ P. a ∷ P) (combinations level J)) Q m in
      let (P, p, e) = mem-of_map (λ P. a ∷ P) (combinations level J) n in
      (a, P, (let q = mem-from 0 (level i) k in omega arith), p, e)

  place-below : (J : List C) (P : List ℕ) → Memᴰ P (combinations level J) → place J P < product_of level J
  place-below [] P m = zero-lt-suc 0
  place-below (i ∷ J) Q m = let (a, P, l, n, e) = mem-combinations i J Q m in
      subst (λ Q. place (i ∷ J) Q < product_of level (i ∷ J)) e (omega (arith, place-below J P n, mul-le-mul_right (product_of level J) l))

  block : (i : C) (J : List C) → map (place J) (combinations level J) ≡ from 0 (product_of level J) → (b n : ℕ) →
      map (place (i ∷ J)) (each (from b n) (λ a. map (λ P. a ∷ P) (combinations level J))) ≡ from (b * product_of level J) (n * product_of level J)
  block i J e b zero = rw (zero-mul (product_of level J))
  block i J e b (suc n) =
      let p = product_of level J in
      map-append (place (i ∷ J)) (map (λ P. b ∷ P) (combinations level J)) (each (from (suc b) n) (λ a. map (λ P. a ∷ P) (combinations level J)))
      ∙ rw (
        map-map (place (i ∷ J)) (λ P. b ∷ P) (combinations level J),
        sym (map-map (λ k. b * p + k) (place J) (combinations level J)),
        e,
        from-shift (b * p) 0 p,
        block i J e (suc b) n,
        suc-mul n p,
        suc-mul b p,
        add-zero (b * p),
        add_comm (n * p) p,
      ) (sym (from-add (b * p) p (n * p)))

  -- in dictionary order they are 0, 1, 2 and so on
  pub places : (J : List C) → map (place J) (combinations level J) ≡ from 0 (product_of level J)
  places [] = refl
  places (i ∷ J) = block i J (places J) 0 (level i) ∙ ap (λ k. from k (level i * product_of level J)) (zero-mul (product_of level J))

module _ {R C : Type 0} (level : C → ℕ) (entry : R → C → ℕ) (rs : List R) where
  -- every entry of the runs in the columns J is below its level
  abbrev pub Below : List C → Type 0
  Below J = (f : R) → Memᴰ f rs → (i : C) → Memᴰ i J → entry f i < level i

  pub number-below : (J : List C) → Below J → (f : R) → Memᴰ f rs → number_of level entry f J < product_of level J
  number-below [] v f m = zero-lt-suc 0
  number-below (i ∷ J) v f m =
      omega (arith, number-below J (λ f m k n. v f m k (mem-tail n)) f m, mul-le-mul_right (product_of level J) (v f m i (mem-head refl)))

  -- a run has a combination exactly where the numbers agree
  pub shows-number : (J : List C) → Below J → (f : R) → Memᴰ f rs → (P : List ℕ) → Memᴰ P (combinations level J) →
      shows entry f J P ≡ eqb (number_of level entry f J) (place level J P)
  shows-number [] v f m P n = refl
  shows-number (i ∷ J) v f m Q n = let (a, P, l, p, e) = mem-combinations level i J Q n in
      let u : Below J = λ f m k n. v f m k (mem-tail n) in
      subst (λ Q. shows entry f (i ∷ J) Q ≡ eqb (number_of level entry f (i ∷ J)) (place level (i ∷ J) Q)) e
      (ap (λ c. eqb (entry f i) a && c) (shows-number J u f m P p)
      ∙ sym (digits (product_of level J) (entry f i) (number_of level entry f J) a (place level J P) (number-below J u f m) (place-below level J P p)))

  -- so the counts, combination after combination, are the counts by number
  pub tallies-numbered : (J : List C) → Below J →
      map (tally entry rs J) (combinations level J) ≡ map (tally_of level entry rs J) (from 0 (product_of level J))
  tallies-numbered J v =
      map-cong-in (combinations level J) {f = tally entry rs J} {g = λ P. tally_of level entry rs J (place level J P)}
      (λ P n. count-cong-in rs (λ f m. shows-number J v f m P n))
      ∙ sym (map-map (tally_of level entry rs J) (place level J) (combinations level J))
      ∙ ap (map (tally_of level entry rs J)) (places level J)

  pub even-numbered : (J : List C) → Below J → even level entry rs J ≡ alike (map (tally_of level entry rs J) (from 0 (product_of level J)))
  unfolding even
  even-numbered J v = ap alike (tallies-numbered J v)
