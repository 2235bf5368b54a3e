-- The place of a set: how large it is, one column more, and the set at a place.
use Rattle.exact.proofs.Ground.{List, [], ◌∷◌, ◌++◌, Memᴰ, mem-head, mem-tail, mem-append_left, mem-append_right, ◌≡◌, ◌∙◌}
use Rattle.exact.proofs.Ground.{ap, refl, subst, ℕ, ◌≤◌, ◌<◌, ◌-◌, ◌+◌, ◌*◌, suc, zero, le_trans, le_refl, arith, length, length-append, ne_eqb}
use lib.Arith.{digits_div, digits_mod}
use Rattle.exact.proofs.Lists.{grown}
use Rattle.exact.proofs.Numbers.{mul-below}
use Rattle.part_sums.specs.Stored.{place_in, places, columns_at}

module _ (b : ℕ) where
  pub places-mono : 1 ≤ b → (j k : ℕ) → j ≤ k → places b j ≤ places b k
  places-mono low zero zero h = le_refl 1
  places-mono low zero (suc k) h = le_trans (places-mono low zero k (omega arith)) (let q : places b k ≤ places b k * b = grow (places b k) in q)
    where
      grow : (x : ℕ) → x ≤ x * b
      grow x = omega (arith, mul-below x 1 x b (le_refl x) low)
  places-mono low (suc j) zero h = absurd (omega arith)
  places-mono low (suc j) (suc k) h = mul-below (places b j) b (places b k) b (places-mono low j k (omega arith)) (le_refl b)

  pub places-base : (c : ℕ) → b ≤ c → (k : ℕ) → places b k ≤ places c k
  places-base c h zero = le_refl 1
  places-base c h (suc k) = mul-below (places b k) b (places c k) c (places-base c h k) h

  -- one column more
  pub place-next : (k at i : ℕ) → at < places b k → i + 1 < b → at * b + i + 1 < places b (suc k)
  place-next k at i h l = omega (arith, mul-below (suc at) b (places b k) b h (le_refl b), next at)
    where
      next : (x : ℕ) → suc x * b ≡ x * b + b
      next x = omega arith

  pub place-snoc : (at : ℕ) (K : List ℕ) (i : ℕ) → place_in b at (K ++ i ∷ []) ≡ place_in b at K * b + i + 1
  place-snoc at [] i = refl
  place-snoc at (k ∷ K) i = place-snoc (at * b + k + 1) K i

  abbrev pub Low : List ℕ → Type 0
  Low K = (k : ℕ) → Memᴰ k K → k + 1 < b

  pub place-bound : (K : List ℕ) (a at : ℕ) → Low K → at < places b a → place_in b at K < places b (length K + a)
  place-bound [] a at v h = subst (λ n. at < places b n) (let e : a ≡ 0 + a = omega arith in e) h
  place-bound (k ∷ K) a at v h =
      subst (λ n. place_in b (at * b + k + 1) K < places b n) (let e : length K + suc a ≡ suc (length K) + a = omega arith in e)
      (place-bound K (suc a) (at * b + k + 1) (λ j m. v j (mem-tail m)) (place-next a at k h (v k (mem-head refl))))

  -- the set at the place of a set is that set
  pub columns-place : (K : List ℕ) → Low K → (n : ℕ) → length K ≤ n → columns_at b n (place_in b 0 K) ≡ K
  columns-place =
      grown (λ K. Low K → (n : ℕ) → length K ≤ n → columns_at b n (place_in b 0 K) ≡ K) (λ v n h. none n)
      (λ K i ih v n h. step K i (v i (mem-append_right K (mem-head refl))) (λ n l. ih (λ k m. v k (mem-append_left (i ∷ []) m)) n l) n
      (omega (arith, length-append K (i ∷ []))))
    where
      none : (n : ℕ) → columns_at b n 0 ≡ []
      none zero = refl
      none (suc n) = refl

      step : (K : List ℕ) (i : ℕ) → i + 1 < b → ((n : ℕ) → length K ≤ n → columns_at b n (place_in b 0 K) ≡ K) → (n : ℕ) → length K < n →
          columns_at b n (place_in b 0 (K ++ i ∷ [])) ≡ K ++ i ∷ []
      step K i l ih zero h = absurd (omega arith)
      step K i l ih (suc n) h =
          let x = place_in b 0 K in
          let e : x * b + i + 1 ≡ x * b + (i + 1) = omega arith in
          let d : i + 1 - 1 ≡ i = omega arith in
          ap (columns_at b (suc n)) (place-snoc 0 K i ∙ e)
          ∙ rw (ne_eqb (x * b + (i + 1)) 0 (λ e. omega arith), digits_div x {m = b} {r = i + 1} l, digits_mod x {m = b} {r = i + 1} l, ih n (omega arith), d)
