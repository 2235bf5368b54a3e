-- The elementary symmetric sums of some numbers depend only on how often each number occurs: they are sums over a bag.
use Rattle.exact.proofs.Ground.{true, false, Bool, cond, List, [], ◌∷◌, map, ◌++◌, ◌≡◌, ◌∙◌, sym, ap, refl, subst, ℕ, ◌<◌, suc, zero, arith, eqb, T, pos}
use Rattle.exact.proofs.Ground.{ℤ, negsuc, ◌*ℤ◌, ◌+ℤ◌}
use borrow.Author.Tests.{eqb-true, eq-eqb}
use Rattle.exact.specs.Lists.{count}
use Rattle.exact.proofs.Ring.{ring}
use Rattle.sets.proofs.Choose.{esp}

-- whether two numbers are the same
abbrev pub eq_z : ℤ → ℤ → Bool
eq_z (pos a) (pos b) = eqb a b
eq_z (pos a) (negsuc b) = false
eq_z (negsuc a) (pos b) = false
eq_z (negsuc a) (negsuc b) = eqb a b

eq_z-true : (x y : ℤ) → eq_z x y ≡ true → x ≡ y
eq_z-true (pos a) (pos b) e = ap pos (eqb-true a b e)
eq_z-true (pos a) (negsuc b) e = absurd (subst T (sym e) tt)
eq_z-true (negsuc a) (pos b) e = absurd (subst T (sym e) tt)
eq_z-true (negsuc a) (negsuc b) e = ap negsuc (eqb-true a b e)

eq_z-self : (x : ℤ) → eq_z x x ≡ true
eq_z-self (pos a) = eq-eqb a a refl
eq_z-self (negsuc a) = eq-eqb a a refl

module _ {A B : Type 0} where
  pub esp-map : (j : ℕ) (h : A → B) (xs : List A) (f : B → ℤ) → esp j (map h xs) f ≡ esp j xs (λ x. f (h x))
  esp-map zero h xs f = refl
  esp-map (suc j) h [] f = refl
  esp-map (suc j) h (x ∷ xs) f = rw (esp-map j h xs f, esp-map (suc j) h xs f)

exchange : (x y a b c : ℤ) → y *ℤ (x *ℤ a +ℤ b) +ℤ (x *ℤ b +ℤ c) ≡ x *ℤ (y *ℤ a +ℤ b) +ℤ (y *ℤ b +ℤ c)
exchange x y a b c = simp ring

exchange₁ : (x y c : ℤ) → y *ℤ pos 1 +ℤ (x *ℤ pos 1 +ℤ c) ≡ x *ℤ pos 1 +ℤ (y *ℤ pos 1 +ℤ c)
exchange₁ x y c = simp ring

module _ {A : Type 0} (f : A → ℤ) where
  -- two columns change places
  pub esp-swap : (j : ℕ) (x y : A) (xs : List A) → esp j (y ∷ x ∷ xs) f ≡ esp j (x ∷ y ∷ xs) f
  esp-swap zero x y xs = refl
  esp-swap (suc zero) x y xs = exchange₁ (f x) (f y) (esp 1 xs f)
  esp-swap (suc (suc j)) x y xs = exchange (f x) (f y) (esp j xs f) (esp (suc j) xs f) (esp (suc (suc j)) xs f)

  -- a member may stand first
  pub esp-at : (j : ℕ) (ps : List A) (x : A) (qs : List A) → esp j (ps ++ x ∷ qs) f ≡ esp j (x ∷ ps ++ qs) f
  esp-at j [] x qs = refl
  esp-at zero (y ∷ ps) x qs = refl
  esp-at (suc j) (y ∷ ps) x qs = rw (esp-at j ps x qs, esp-at (suc j) ps x qs) (esp-swap (suc j) x y (ps ++ qs))

module _ {A : Type 0} (test : A → Bool) where
  pub count_at : (ps : List A) (x : A) (qs : List A) → count test (ps ++ x ∷ qs) ≡ cond (test x) (suc (count test (ps ++ qs))) (count test (ps ++ qs))
  count_at [] x qs = refl
  count_at (y ∷ ps) x qs = rw (count_at ps x qs) (go (test y) (test x))
    where
      go : (a b : Bool) → let n = count test (ps ++ qs) in
          cond a (suc (cond b (suc n) n)) (cond b (suc n) n) ≡ cond b (suc (cond a (suc n) n)) (cond a (suc n) n)
      go true true = refl
      go true false = refl
      go false true = refl
      go false false = refl

-- ---- where a number occurs

pub record Split (v : ℤ) (ys : List ℤ) : Type 0 where
  pub before : List ℤ
  pub after : List ℤ
  pub whole : ys ≡ before ++ v ∷ after

pub split : (v : ℤ) (ys : List ℤ) → 0 < count (eq_z v) ys → Split v ys
split v [] h = absurd (omega arith)
split v (y ∷ ys) h = go (eq_z v y) refl (split v ys) h
  where
    go : (b : Bool) → eq_z v y ≡ b → (0 < count (eq_z v) ys → Split v ys) → 0 < cond b (suc (count (eq_z v) ys)) (count (eq_z v) ys) → Split v (y ∷ ys)
    go true e later l = record { before = []; after = ys; whole = ap (λ z. z ∷ ys) (sym (eq_z-true v y e)) }
    go false e later l = let s = later l in record { before = y ∷ s.before; after = s.after; whole = ap (λ zs. y ∷ zs) s.whole }

-- each number occurs equally often in both
abbrev pub SameBag : List ℤ → List ℤ → Type 0
SameBag xs ys = (v : ℤ) → count (eq_z v) xs ≡ count (eq_z v) ys

suc-cond : (b : Bool) (m n : ℕ) → cond b (suc m) m ≡ cond b (suc n) n → m ≡ n
suc-cond true m n e = omega arith
suc-cond false m n e = e

module _ (f : ℤ → ℤ) where
  pub esp-bag : (xs ys : List ℤ) → SameBag xs ys → (j : ℕ) → esp j xs f ≡ esp j ys f
  esp-bag [] [] same j = refl
  esp-bag [] (y ∷ ys) same j = absurd (
      let e : 0 ≡ suc (count (eq_z y) ys) = same y ∙ ap (λ b. cond b (suc (count (eq_z y) ys)) (count (eq_z y) ys)) (eq_z-self y) in omega arith)
  esp-bag (x ∷ xs) ys same j =
      let here : suc (count (eq_z x) xs) ≡ count (eq_z x) ys = ap (λ b. cond b (suc (count (eq_z x) xs)) (count (eq_z x) xs)) (sym (eq_z-self x)) ∙ same x in
      let s = split x ys (omega arith) in
      let rest = s.before ++ s.after in
      let others : SameBag xs rest = λ v. suc-cond (eq_z v x) (count (eq_z v) xs) (count (eq_z v) rest)
      (same v ∙ ap (count (eq_z v)) s.whole ∙ count_at (eq_z v) s.before x s.after) in
      first j rest (esp-bag xs rest others) ∙ sym (ap (λ zs. esp j zs f) s.whole ∙ esp-at f j s.before x s.after)
    where
      first : (j : ℕ) (rest : List ℤ) → ((j : ℕ) → esp j xs f ≡ esp j rest f) → esp j (x ∷ xs) f ≡ esp j (x ∷ rest) f
      first zero rest h = refl
      first (suc j) rest h = rw (h j, h (suc j))
