-- Sums over the sets of columns: over all sets of j members they are the elementary symmetric sums, worked out a member at a time.
use Rattle.exact.proofs.Ground.{true, false, Bool, cond, ◌&&◌, List, [], ◌∷◌, map, ◌++◌, Memᴰ, mem-head, mem-tail, ◌≡◌, ◌∙◌, sym, ap}
use Rattle.exact.proofs.Ground.{refl, ℕ, ◌<◌, suc, zero, arith, pos, ℤ, ◌*ℤ◌, ◌+ℤ◌, +ℤ_comm, *ℤ-zero, +ℤ_assoc, length}
use Rattle.exact.specs.Lists.{sum, prod, all, keep}
use Rattle.exact.proofs.Ring.{ring}
use Rattle.exact.proofs.Sums.{sum-++, sum-map, sum-*}
use Rattle.exact.proofs.Lists.{keep-++, keep-map, keep-none, map-map}
use Rattle.exact.proofs.Rooms.{map-++}
use Rattle.sets.specs.Sets.{choose, subsets}

module _ {A : Type 0} where
  -- the sum, over the sets of j members, of the product of f over the set, a member at a time
  abbrev pub esp : ℕ → List A → (A → ℤ) → ℤ
  esp zero xs f = pos 1
  esp (suc j) [] f = pos 0
  esp (suc j) (x ∷ xs) f = f x *ℤ esp j xs f +ℤ esp (suc j) xs f

module _ {A : Type 0} where
  pub sum-choose : (j : ℕ) (xs : List A) (f : A → ℤ) → sum (choose j xs) (λ I. prod I f) ≡ esp j xs f
  sum-choose zero xs f = refl
  sum-choose (suc j) [] f = refl
  sum-choose (suc j) (x ∷ xs) f =
      rw (
        sum-++ (map (λ I. x ∷ I) (choose j xs)) (choose (suc j) xs) (λ I. prod I f),
        sum-map (λ I. x ∷ I) (choose j xs) (λ I. prod I f),
        sum-choose (suc j) xs f,
        sum-* (choose j xs) (f x) (λ I. prod I f),
        sum-choose j xs f,
      )

  pub sum-subsets : (xs : List A) (f : A → ℤ) → sum (subsets xs) (λ I. prod I f) ≡ prod xs (λ x. f x +ℤ pos 1)
  sum-subsets [] f = refl
  sum-subsets (x ∷ xs) f =
      rw (
        sum-++ (map (λ I. x ∷ I) (subsets xs)) (subsets xs) (λ I. prod I f),
        sum-map (λ I. x ∷ I) (subsets xs) (λ I. prod I f),
        sum-* (subsets xs) (f x) (λ I. prod I f),
        sum-subsets xs f,
      ) (simp ring)

  pub esp-cong-in : (j : ℕ) (xs : List A) {f g : A → ℤ} → ((x : A) → Memᴰ x xs → f x ≡ g x) → esp j xs f ≡ esp j xs g
  esp-cong-in zero xs h = refl
  esp-cong-in (suc j) [] h = refl
  esp-cong-in (suc j) (x ∷ xs) {f} {g} h =
      let others : (y : A) → Memᴰ y xs → f y ≡ g y = λ y m. h y (mem-tail m) in
      rw (h x (mem-head refl), esp-cong-in j xs {f = f} {g = g} others, esp-cong-in (suc j) xs {f = f} {g = g} others)

  -- no set has more members than the list
  pub esp-above : (j : ℕ) (xs : List A) (f : A → ℤ) → length xs < j → esp j xs f ≡ pos 0
  esp-above zero xs f h = absurd (omega arith)
  esp-above (suc j) [] f h = refl
  esp-above (suc j) (x ∷ xs) f h = rw (esp-above j xs f (omega arith), esp-above (suc j) xs f (omega arith)) (rw (*ℤ-zero (f x)))

-- ---- one member more, at the end

regroup : (x y a b c : ℤ) → y *ℤ (b +ℤ x *ℤ a) +ℤ (c +ℤ x *ℤ b) ≡ (y *ℤ b +ℤ c) +ℤ x *ℤ (y *ℤ a +ℤ b)
regroup x y a b c = simp ring

module _ {A : Type 0} where
  pub esp-snoc : (j : ℕ) (xs : List A) (x : A) (f : A → ℤ) → esp (suc j) (xs ++ x ∷ []) f ≡ esp (suc j) xs f +ℤ f x *ℤ esp j xs f
  esp-snoc j [] x f = +ℤ_comm (f x *ℤ esp j [] f) (pos 0)
  esp-snoc zero (y ∷ xs) x f = rw (esp-snoc zero xs x f) (sym (+ℤ_assoc (f y *ℤ pos 1) (esp 1 xs f) (f x *ℤ pos 1)))
  esp-snoc (suc j) (y ∷ xs) x f =
      rw (esp-snoc j xs x f, esp-snoc (suc j) xs x f) (regroup (f x) (f y) (esp j xs f) (esp (suc j) xs f) (esp (suc (suc j)) xs f))

-- ---- members left out, and other names for the members

module _ {A : Type 0} (test : A → Bool) where
  -- the sets whose members all pass are the sets of the members that pass, in the same order
  pub choose-keep : (j : ℕ) (xs : List A) → keep (λ I. all I test) (choose j xs) ≡ choose j (keep test xs)
  choose-keep zero xs = refl
  choose-keep (suc j) [] = refl
  choose-keep (suc j) (x ∷ xs) =
      keep-++ (λ I. all I test) (map (λ I. x ∷ I) (choose j xs)) (choose (suc j) xs)
      ∙ rw (keep-map (λ I. all I test) (λ I. x ∷ I) (choose j xs), choose-keep (suc j) xs) (go (test x) (choose-keep j xs))
    where
      go : (b : Bool) → keep (λ I. all I test) (choose j xs) ≡ choose j (keep test xs) →
          map (λ I. x ∷ I) (keep (λ I. b && all I test) (choose j xs)) ++ choose (suc j) (keep test xs)
          ≡ choose (suc j) (cond b (x ∷ keep test xs) (keep test xs))
      go true having = ap (λ l. map (λ I. x ∷ I) l ++ choose (suc j) (keep test xs)) having
      go false having = ap (λ l. map (λ I. x ∷ I) l ++ choose (suc j) (keep test xs)) (keep-none (choose j xs))

module _ {A B : Type 0} (g : A → B) where
  pub choose-map : (j : ℕ) (xs : List A) → choose j (map g xs) ≡ map (map g) (choose j xs)
  choose-map zero xs = refl
  choose-map (suc j) [] = refl
  choose-map (suc j) (x ∷ xs) =
      rw (choose-map j xs, choose-map (suc j) xs, map-++ (map g) (map (λ I. x ∷ I) (choose j xs)) (choose (suc j) xs))
      (ap (λ l. l ++ map (map g) (choose (suc j) xs))
      (map-map (λ I. g x ∷ I) (map g) (choose j xs) ∙ sym (map-map (map g) (λ I. x ∷ I) (choose j xs))))
