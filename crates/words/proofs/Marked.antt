-- A room with a place for each number, in which the numbers of a list are marked one after the other.
use Rattle.exact.proofs.Ground.{true, false, Bool, ◌||◌, List, [], ◌∷◌, map, ◌++◌, ◌≡◌, ◌∙◌, sym, ap, refl, ℕ, ◌<◌, ◌+◌, ℕ_discrete, zero-add}
use Rattle.exact.proofs.Ground.{add-one, arith, eqb, length, get_or, take, set, length-set, take-suc, ext_get_or, ne_eqb, eq-eqb}
use lib.Seq.{get_or-set_same, get_or-set_other}
use Rattle.exact.specs.Lists.{from, holds}
use Rattle.exact.proofs.Numbers.{length-map-from, map-from-at}

||-assoc : (a b c : Bool) → (a || (b || c)) ≡ ((a || b) || c)
||-assoc true b c = refl
||-assoc false b c = refl

||-last : (b : Bool) → (b || true) ≡ true
||-last true = refl
||-last false = refl

||-none : (b : Bool) → (b || false) ≡ b
||-none true = refl
||-none false = refl

-- one number more at the end
holds-snoc : (x : ℕ) (ys : List ℕ) (y : ℕ) → holds x (ys ++ y ∷ []) ≡ (holds x ys || eqb x y)
holds-snoc x [] y = ||-none (eqb x y)
holds-snoc x (z ∷ ys) y = ap (λ b. eqb x z || b) (holds-snoc x ys y) ∙ ||-assoc (eqb x z) (holds x ys) (eqb x y)

-- held true x is what place x holds where x is marked, and held false x where it is not
module _ {A : Type 0} (held : Bool → ℕ → A) (n : ℕ) where
  unfoldable pub marked : List ℕ → List A
  marked xs = map (λ x. held (holds x xs) x) (from 0 n)

  length_marked : (xs : List ℕ) → length (marked xs) ≡ n
  unfolding marked
  length_marked xs = length-map-from (λ x. held (holds x xs) x) 0 n

  marked-at : (xs : List ℕ) (i : ℕ) → i < n → get_or (marked xs) i (held false 0) ≡ held (holds i xs) i
  unfolding marked
  marked-at xs i h = map-from-at (λ x. held (holds x xs) x) 0 n i (held false 0) h ∙ ap (λ x. held (holds x xs) x) (zero-add i)

  mark : (xs : List ℕ) (y : ℕ) → y < n → set (marked xs) y (held true y) ≡ marked (xs ++ y ∷ [])
  mark xs y h =
      ext_get_or (held false 0) (set (marked xs) y (held true y)) (marked (xs ++ y ∷ []))
      (length-set (marked xs) y (held true y) ∙ length_marked xs ∙ sym (length_marked (xs ++ y ∷ [])))
      (λ i l. each i (let k = length-set (marked xs) y (held true y) in omega (arith, length_marked xs)) (ℕ_discrete i y))
    where
      each : (i : ℕ) → i < n → Dec (i ≡ y) → get_or (set (marked xs) y (held true y)) i (held false 0) ≡ get_or (marked (xs ++ y ∷ [])) i (held false 0)
      each i l (yes e) =
          rw (marked-at (xs ++ y ∷ []) i l, holds-snoc i xs y, eq-eqb i y e, ||-last (holds i xs), e)
          (get_or-set_same (marked xs) y (held true y) (held false 0) (rw (length_marked xs) h))
      each i l (no d) =
          rw (marked-at (xs ++ y ∷ []) i l, holds-snoc i xs y, ne_eqb i y d, ||-none (holds i xs))
          (get_or-set_other (marked xs) y i (held true y) (held false 0) d ∙ marked-at xs i l)

  pub marked_next : (xs : List ℕ) (k : ℕ) → k < length xs → get_or xs k 0 < n →
      set (marked (take k xs)) (get_or xs k 0) (held true (get_or xs k 0)) ≡ marked (take (k + 1) xs)
  marked_next xs k h l = mark (take k xs) (get_or xs k 0) l ∙ ap marked (sym (take-suc xs k 0 h) ∙ ap (λ n. take n xs) (sym (add-one k)))
