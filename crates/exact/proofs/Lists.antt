-- Lists, whatever they hold: what `map`, `keep`, `count` and `get_or` do to a part, to one member more, or to the members one by one.
use Rattle.exact.proofs.Ground.{true, false, Bool, cond, ◌&&◌, List, [], ◌∷◌, map, ◌++◌, Memᴰ, mem-head, mem-tail}
use Rattle.exact.proofs.Ground.{append_assoc, append-nil, ◌≡◌, ◌∙◌, sym, ap, refl, ap₂, subst, fun_ext, ℕ, ◌≤◌, ◌<◌, ◌-◌, ◌+◌, suc, zero}
use Rattle.exact.proofs.Ground.{arith, length, get_or, take, drop, set, drop-cons}
use Rattle.exact.specs.Lists.{keep, count}

module _ {A : Type 0} where
  -- what holds of no member and is kept by one more at the end holds of every list
  pub grown : (P : List A → Type 0) → P [] → ((xs : List A) (x : A) → P xs → P (xs ++ x ∷ [])) → (xs : List A) → P xs
  grown P z s xs = go [] xs z
    where
      go : (ys zs : List A) → P ys → P (ys ++ zs)
      go ys [] p = subst P (sym (append-nil ys)) p
      go ys (z ∷ zs) p = subst P (append_assoc ys (z ∷ []) zs) (go (ys ++ z ∷ []) zs (s ys z p))

  -- a loop from the last member down
  pub drop-back : (xs : List A) (k : ℕ) (d : A) → 0 < k → k ≤ length xs → drop (k - 1) xs ≡ get_or xs (k - 1) d ∷ drop k xs
  drop-back xs k d h l =
      let e : suc (k - 1) ≡ k = omega arith in
      drop-cons xs (k - 1) d (omega arith) ∙ ap (λ j. get_or xs (k - 1) d ∷ drop j xs) e

  pub mem-drop : (k : ℕ) (xs : List A) (x : A) → Memᴰ x (drop k xs) → Memᴰ x xs
  mem-drop zero xs x m = m
  mem-drop (suc k) [] x m = m
  mem-drop (suc k) (y ∷ ys) x m = mem-tail (mem-drop k ys x m)

-- ---- count

module _ {A : Type 0} (test : A → Bool) where
  pub count-snoc : (xs : List A) (x : A) → count test (xs ++ x ∷ []) ≡ cond (test x) (count test xs + 1) (count test xs)
  count-snoc [] x = refl
  count-snoc (y ∷ ys) x = rw (count-snoc ys x) (go (test y) (test x))
    where
      go : (a b : Bool) →
          cond a (suc (cond b (count test ys + 1) (count test ys))) (cond b (count test ys + 1) (count test ys))
          ≡ cond b (cond a (suc (count test ys)) (count test ys) + 1) (cond a (suc (count test ys)) (count test ys))
      go true true = omega arith
      go true false = refl
      go false true = refl
      go false false = refl

  pub count_none : (xs : List A) → ((x : A) → Memᴰ x xs → test x ≡ false) → count test xs ≡ 0
  count_none [] h = refl
  count_none (x ∷ xs) h = rw (h x (mem-head refl)) (count_none xs (λ y m. h y (mem-tail m)))

  pub count_most : (xs : List A) → count test xs ≤ length xs
  count_most [] = omega arith
  count_most (x ∷ xs) = go (test x) (count_most xs)
    where
      go : (b : Bool) → count test xs ≤ length xs → cond b (suc (count test xs)) (count test xs) ≤ suc (length xs)
      go true h = omega arith
      go false h = omega arith

-- ---- keep

module _ {A : Type 0} (test : A → Bool) where
  pub keep-++ : (xs ys : List A) → keep test (xs ++ ys) ≡ keep test xs ++ keep test ys
  keep-++ [] ys = refl
  keep-++ (x ∷ xs) ys = go (test x) (keep-++ xs ys)
    where
      go : (t : Bool) → keep test (xs ++ ys) ≡ keep test xs ++ keep test ys →
          cond t (x ∷ keep test (xs ++ ys)) (keep test (xs ++ ys)) ≡ cond t (x ∷ keep test xs) (keep test xs) ++ keep test ys
      go true e = ap (λ l. x ∷ l) e
      go false e = e

  pub keep-map : {B : Type 0} (g : B → A) (xs : List B) → keep test (map g xs) ≡ map g (keep (λ x. test (g x)) xs)
  keep-map g [] = refl
  keep-map g (x ∷ xs) = go (test (g x)) (keep-map g xs)
    where
      go : (t : Bool) → keep test (map g xs) ≡ map g (keep (λ x. test (g x)) xs) →
          cond t (g x ∷ keep test (map g xs)) (keep test (map g xs)) ≡ map g (cond t (x ∷ keep (λ x. test (g x)) xs) (keep (λ x. test (g x)) xs))
      go true e = ap (λ l. g x ∷ l) e
      go false e = e

  pub keep-most : (xs : List A) → length (keep test xs) ≤ length xs
  keep-most [] = omega arith
  keep-most (x ∷ xs) = go (test x) (keep-most xs)
    where
      go : (t : Bool) → length (keep test xs) ≤ length xs → length (cond t (x ∷ keep test xs) (keep test xs)) ≤ suc (length xs)
      go true h = omega arith
      go false h = omega arith

module _ {A : Type 0} where
  pub keep-keep : (p q : A → Bool) (xs : List A) → keep p (keep q xs) ≡ keep (λ x. q x && p x) xs
  keep-keep p q [] = refl
  keep-keep p q (x ∷ xs) = go (q x) (keep-keep p q xs)
    where
      under : (b : Bool) → keep p (keep q xs) ≡ keep (λ y. q y && p y) xs →
          cond b (x ∷ keep p (keep q xs)) (keep p (keep q xs)) ≡ cond b (x ∷ keep (λ y. q y && p y) xs) (keep (λ y. q y && p y) xs)
      under true e = ap (λ l. x ∷ l) e
      under false e = e

      go : (b : Bool) → keep p (keep q xs) ≡ keep (λ y. q y && p y) xs →
          keep p (cond b (x ∷ keep q xs) (keep q xs)) ≡ cond (b && p x) (x ∷ keep (λ y. q y && p y) xs) (keep (λ y. q y && p y) xs)
      go true e = under (p x) e
      go false e = e

  pub keep-swap : (p q : A → Bool) (xs : List A) → keep p (keep q xs) ≡ keep q (keep p xs)
  keep-swap p q xs =
      keep-keep p q xs ∙ ap (λ test. keep test xs) (fun_ext (λ x. swap (q x) (p x))) ∙ sym (keep-keep q p xs)
    where
      swap : (a b : Bool) → (a && b) ≡ (b && a)
      swap true true = refl
      swap true false = refl
      swap false true = refl
      swap false false = refl

  pub keep_all : (xs : List A) → keep (λ x. true) xs ≡ xs
  keep_all [] = refl
  keep_all (x ∷ xs) = ap (λ l. x ∷ l) (keep_all xs)

  pub keep-none : (xs : List A) → keep (λ x. false) xs ≡ []
  keep-none [] = refl
  keep-none (x ∷ xs) = keep-none xs

-- ---- map

module _ {A B : Type 0} where
  pub map-cong-in : (xs : List A) {f g : A → B} → ((x : A) → Memᴰ x xs → f x ≡ g x) → map f xs ≡ map g xs
  map-cong-in [] h = refl
  map-cong-in (x ∷ xs) h = ap₂ (λ y ys. y ∷ ys) (h x (mem-head refl)) (map-cong-in xs (λ y m. h y (mem-tail m)))

  pub get_d_map : (f : A → B) (xs : List A) (k : ℕ) (d : A) (e : B) → k < length xs → get_or (map f xs) k e ≡ f (get_or xs k d)
  get_d_map f [] k d e h = absurd (omega arith)
  get_d_map f (x ∷ xs) zero d e h = refl
  get_d_map f (x ∷ xs) (suc k) d e h = get_d_map f xs k d e (omega arith)

  pub map-set : (f : A → B) (xs : List A) (k : ℕ) (y : A) → map f (set xs k y) ≡ set (map f xs) k (f y)
  map-set f [] k y = refl
  map-set f (x ∷ xs) zero y = refl
  map-set f (x ∷ xs) (suc k) y = ap (λ l. f x ∷ l) (map-set f xs k y)

  pub map-take : (f : A → B) (k : ℕ) (xs : List A) → map f (take k xs) ≡ take k (map f xs)
  map-take f zero xs = refl
  map-take f (suc k) [] = refl
  map-take f (suc k) (x ∷ xs) = ap (λ l. f x ∷ l) (map-take f k xs)

  pub map-drop : (f : A → B) (k : ℕ) (xs : List A) → map f (drop k xs) ≡ drop k (map f xs)
  map-drop f zero xs = refl
  map-drop f (suc k) [] = refl
  map-drop f (suc k) (x ∷ xs) = map-drop f k xs

module _ {A B C : Type 0} where
  pub map-map : (g : B → C) (f : A → B) (xs : List A) → map g (map f xs) ≡ map (λ x. g (f x)) xs
  map-map g f [] = refl
  map-map g f (x ∷ xs) = ap (λ l. g (f x) ∷ l) (map-map g f xs)
