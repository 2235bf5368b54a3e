-- Sums and products over a list, in ℤ. A law's name says what it is of: `sum-++` of an append, `sum-swap` of two sums, `sum-at` of one member.
use Rattle.exact.proofs.Ground.{true, false, Bool, cond, List, [], ◌∷◌, map, ◌++◌, Memᴰ, mem-head, mem-tail}
use Rattle.exact.proofs.Ground.{mem-not_nil, ◌≡◌, ◌∙◌, sym, ap, refl, fun_ext, pos, ℤ, ◌*ℤ◌, ◌+ℤ◌, +ℤ_idl, +ℤ_comm, *ℤ-zero, zero-*ℤ}
use Rattle.exact.proofs.Ground.{+ℤ_assoc, length}
use lib.IntN.{suc_ℤ-*ℤ}
use Rattle.exact.proofs.Ring.{ring, *-+, *-assoc, one-*}
use Rattle.exact.specs.Lists.{sum, prod, keep}

module _ {A : Type 0} where
  pub sum-cong : (xs : List A) {f g : A → ℤ} → ((x : A) → f x ≡ g x) → sum xs f ≡ sum xs g
  sum-cong xs h = ap (sum xs) (fun_ext h)

  pub prod-cong : (xs : List A) {f g : A → ℤ} → ((x : A) → f x ≡ g x) → prod xs f ≡ prod xs g
  prod-cong xs h = ap (prod xs) (fun_ext h)

  pub sum-cong-in : (xs : List A) {f g : A → ℤ} → ((x : A) → Memᴰ x xs → f x ≡ g x) → sum xs f ≡ sum xs g
  sum-cong-in [] h = refl
  sum-cong-in (x ∷ xs) {f} {g} h = rw (h x (mem-head refl), sum-cong-in xs {f = f} {g = g} (λ y m. h y (mem-tail m)))

  pub sum-0 : (xs : List A) → sum xs (λ x. pos 0) ≡ pos 0
  sum-0 [] = refl
  sum-0 (x ∷ xs) = +ℤ_idl _ ∙ sum-0 xs

  pub sum-+ : (xs : List A) (f g : A → ℤ) → sum xs (λ x. f x +ℤ g x) ≡ sum xs f +ℤ sum xs g
  sum-+ [] f g = refl
  sum-+ (x ∷ xs) f g = rw (sum-+ xs f g) (simp ring)

  pub sum-* : (xs : List A) (c : ℤ) (f : A → ℤ) → sum xs (λ x. c *ℤ f x) ≡ c *ℤ sum xs f
  sum-* [] c f = sym (*ℤ-zero c)
  sum-* (x ∷ xs) c f = rw (sum-* xs c f) (sym (*-+ c (f x) (sum xs f)))

  pub sum-++ : (xs ys : List A) (f : A → ℤ) → sum (xs ++ ys) f ≡ sum xs f +ℤ sum ys f
  sum-++ [] ys f = sym (+ℤ_idl (sum ys f))
  sum-++ (x ∷ xs) ys f = rw (sum-++ xs ys f) (sym (+ℤ_assoc (f x) (sum xs f) (sum ys f)))

  pub prod-++ : (xs ys : List A) (f : A → ℤ) → prod (xs ++ ys) f ≡ prod xs f *ℤ prod ys f
  prod-++ [] ys f = sym (one-* (prod ys f))
  prod-++ (x ∷ xs) ys f = rw (prod-++ xs ys f) (sym (*-assoc (f x) (prod xs f) (prod ys f)))

  pub prod-* : (xs : List A) (f g : A → ℤ) → prod xs (λ x. f x *ℤ g x) ≡ prod xs f *ℤ prod xs g
  prod-* [] f g = refl
  prod-* (x ∷ xs) f g = rw (prod-* xs f g) (simp ring)

  pub prod-0 : (xs : List A) (f : A → ℤ) (x : A) → Memᴰ x xs → f x ≡ pos 0 → prod xs f ≡ pos 0
  prod-0 [] f x m e = absurd (mem-not_nil m)
  prod-0 (y ∷ ys) f x (mem-head d) e = rw (sym (ap f d) ∙ e) (zero-*ℤ (prod ys f))
  prod-0 (y ∷ ys) f x (mem-tail m) e = rw (prod-0 ys f x m e) (*ℤ-zero (f y))

  -- members that add nothing may be left out
  pub sum-keep : (test : A → Bool) (xs : List A) (f : A → ℤ) → ((x : A) → Memᴰ x xs → test x ≡ false → f x ≡ pos 0) →
      sum xs f ≡ sum (keep test xs) f
  sum-keep test [] f h = refl
  sum-keep test (x ∷ xs) f h = rw (sum-keep test xs f (λ y m. h y (mem-tail m))) (go (test x) refl)
    where
      go : (b : Bool) → test x ≡ b → f x +ℤ sum (keep test xs) f ≡ sum (cond b (x ∷ keep test xs) (keep test xs)) f
      go true e = refl
      go false e = rw (h x (mem-head refl) e) (+ℤ_idl (sum (keep test xs) f))

  -- one element, wherever it stands
  pub sum-at : (ps : List A) (x : A) (qs : List A) (f : A → ℤ) → sum (ps ++ x ∷ qs) f ≡ f x +ℤ sum (ps ++ qs) f
  sum-at ps x qs f = rw (sum-++ ps (x ∷ qs) f, sum-++ ps qs f) (simp ring)

  pub prod_at : (ps : List A) (x : A) (qs : List A) (f : A → ℤ) → prod (ps ++ x ∷ qs) f ≡ f x *ℤ prod (ps ++ qs) f
  prod_at ps x qs f = rw (prod-++ ps (x ∷ qs) f, prod-++ ps qs f) (simp ring)

  pub sum-const : (xs : List A) (c : ℤ) → sum xs (λ x. c) ≡ pos (length xs) *ℤ c
  sum-const [] c = sym (zero-*ℤ c)
  sum-const (x ∷ xs) c = rw (sum-const xs c) (+ℤ_comm c (pos (length xs) *ℤ c) ∙ sym (suc_ℤ-*ℤ (pos (length xs)) c))

module _ {A B : Type 0} where
  pub sum-map : (h : A → B) (xs : List A) (f : B → ℤ) → sum (map h xs) f ≡ sum xs (λ x. f (h x))
  sum-map h [] f = refl
  sum-map h (x ∷ xs) f = ap (λ z. f (h x) +ℤ z) (sum-map h xs f)

  pub sum-swap : (xs : List A) (ys : List B) (f : A → B → ℤ) → sum xs (λ x. sum ys (λ y. f x y)) ≡ sum ys (λ y. sum xs (λ x. f x y))
  sum-swap [] ys f = sym (sum-0 ys)
  sum-swap (x ∷ xs) ys f = rw (sum-swap xs ys f) (sym (sum-+ ys (f x) (λ y. sum xs (λ x. f x y))))
