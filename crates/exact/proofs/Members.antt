-- The members of a list: those of a part of it, of what is kept of it, and of a list of numbers as its own test finds them.
use Rattle.exact.proofs.Ground.{true, false, Bool, cond, ◌&&◌, ◌||◌, List, [], ◌∷◌, Memᴰ, mem-head, mem-tail}
use Rattle.exact.proofs.Ground.{mem-not_nil, mem-cases_cons, ◌⊎◌, inl, inr, ◌≡◌, ◌∙◌, ap, refl, ℕ, ◌<◌, suc, zero, arith, eqb}
use Rattle.exact.proofs.Ground.{length, get_or, take, eq-eqb, eqb-true}
use Rattle.exact.specs.Lists.{all, keep, holds}
use Rattle.exact.proofs.Tests.{clash}

module _ {A : Type 0} where
  pub get_or-mem : (xs : List A) (k : ℕ) (d : A) → k < length xs → Memᴰ (get_or xs k d) xs
  get_or-mem [] k d h = absurd (omega arith)
  get_or-mem (x ∷ xs) zero d h = mem-head refl
  get_or-mem (x ∷ xs) (suc k) d h = mem-tail (get_or-mem xs k d (omega arith))

  pub take-mem : (k : ℕ) (xs : List A) (x : A) → Memᴰ x (take k xs) → Memᴰ x xs
  take-mem zero xs x m = absurd (mem-not_nil m)
  take-mem (suc k) [] x m = m
  take-mem (suc k) (y ∷ ys) x (mem-head e) = mem-head e
  take-mem (suc k) (y ∷ ys) x (mem-tail m) = mem-tail (take-mem k ys x m)

  pub keep-mem : (test : A → Bool) (xs : List A) (x : A) → Memᴰ x (keep test xs) → Memᴰ x xs
  keep-mem test [] x m = m
  keep-mem test (y ∷ ys) x m = go (test y) (λ k. keep-mem test ys x k) m
    where
      under : (Memᴰ x (keep test ys) → Memᴰ x ys) → Memᴰ x (y ∷ keep test ys) → Memᴰ x (y ∷ ys)
      under h (mem-head e) = mem-head e
      under h (mem-tail k) = mem-tail (h k)

      go : (b : Bool) → (Memᴰ x (keep test ys) → Memᴰ x ys) → Memᴰ x (cond b (y ∷ keep test ys) (keep test ys)) → Memᴰ x (y ∷ ys)
      go true h k = under h k
      go false h k = mem-tail (h k)

  pub keep-passes : (test : A → Bool) (xs : List A) (x : A) → Memᴰ x (keep test xs) → test x ≡ true
  keep-passes test [] x m = absurd (mem-not_nil m)
  keep-passes test (y ∷ ys) x m = go (test y) refl (λ k. keep-passes test ys x k) m
    where
      under : test y ≡ true → (Memᴰ x (keep test ys) → test x ≡ true) → Memᴰ x (y ∷ keep test ys) → test x ≡ true
      under p later (mem-head e) = ap test e ∙ p
      under p later (mem-tail k) = later k

      go : (b : Bool) → test y ≡ b → (Memᴰ x (keep test ys) → test x ≡ true) → Memᴰ x (cond b (y ∷ keep test ys) (keep test ys)) → test x ≡ true
      go true p later k = under p later k
      go false p later k = later k

  -- where not all pass, one does not
  abbrev pub Fails : (A → Bool) → List A → Type 0
  Fails test xs = (x : A) × Memᴰ x xs × (test x ≡ false)

  pub some-fails : (test : A → Bool) (xs : List A) → all xs test ≡ false → Fails test xs
  some-fails test [] e = clash true refl e
  some-fails test (y ∷ ys) e = go (test y) refl (some-fails test ys) e
    where
      go : (b : Bool) → test y ≡ b → (all ys test ≡ false → Fails test ys) → (b && all ys test) ≡ false → Fails test (y ∷ ys)
      go true p later d = let (x, m, q) = later d in (x, mem-tail m, q)
      go false p later d = (y, mem-head refl, p)

-- ---- a list of numbers

pub mem-holds : (x : ℕ) (xs : List ℕ) → Memᴰ x xs → holds x xs ≡ true
mem-holds x [] m = absurd (mem-not_nil m)
mem-holds x (y ∷ ys) m = go (mem-cases_cons m) (mem-holds x ys)
  where
    or-true : (b : Bool) → (b || true) ≡ true
    or-true true = refl
    or-true false = refl

    go : (x ≡ y) ⊎ Memᴰ x ys → (Memᴰ x ys → holds x ys ≡ true) → (eqb x y || holds x ys) ≡ true
    go (inl e) later = ap (λ b. b || holds x ys) (eq-eqb x y e)
    go (inr n) later = ap (λ b. eqb x y || b) (later n) ∙ or-true (eqb x y)

pub holds-mem : (x : ℕ) (xs : List ℕ) → holds x xs ≡ true → Memᴰ x xs
holds-mem x [] e = clash false e refl
holds-mem x (y ∷ ys) e = go (eqb x y) refl e (λ d. holds-mem x ys d)
  where
    go : (b : Bool) → eqb x y ≡ b → (b || holds x ys) ≡ true → (holds x ys ≡ true → Memᴰ x ys) → Memᴰ x (y ∷ ys)
    go true p q later = mem-head (eqb-true x y p)
    go false p q later = mem-tail (later q)
