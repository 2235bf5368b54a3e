-- The parts of a list: its members in their order, some left out. What `choose` and `subsets` list.
use Rattle.exact.proofs.Ground.{true, false, Bool, cond, List, [], ◌∷◌, map, ◌++◌, Memᴰ, mem-head, mem-tail, mem-not_nil}
use Rattle.exact.proofs.Ground.{mem-of_map, mem-append_left, mem-append_right, mem-map, mem-append_cases, mem-of_singleton, ◌⊎◌}
use Rattle.exact.proofs.Ground.{inl, inr, ⊎_elim, ◌≡◌, ◌∙◌, sym, ap, refl, subst, ℕ, ◌≤◌, ◌<◌, suc, zero, zero-le, eq-or-lt_of_le, arith, pos, ℤ}
use Rattle.exact.proofs.Ground.{◌+ℤ◌, +ℤ_idl, +ℤ_comm, length}
use Rattle.exact.specs.Lists.{sum}
use Rattle.exact.specs.Lists as lists
use Rattle.exact.proofs.Sums.{sum-++, sum-map}
use Rattle.sets.specs.Sets.{choose, subsets}

module _ {A : Type 0} where
  -- I is made of members of K, in K's order
  pub data Part : List A → List A → Type 0 where
    none : Part [] []
    skip : {x : A} {I K : List A} → Part I K → Part I (x ∷ K)
    keep : {x : A} {I K : List A} → Part I K → Part (x ∷ I) (x ∷ K)

  pub part-nil : (K : List A) → Part [] K
  part-nil [] = none
  part-nil (x ∷ K) = skip (part-nil K)

  pub part-all : (K : List A) → Part K K
  part-all [] = none
  part-all (x ∷ K) = keep (part-all K)

  pub part-kept : (test : A → Bool) (K : List A) → Part (lists.keep test K) K
  part-kept test [] = none
  part-kept test (x ∷ K) = go (test x) (part-kept test K)
    where
      go : (b : Bool) → Part (lists.keep test K) K → Part (cond b (x ∷ lists.keep test K) (lists.keep test K)) (x ∷ K)
      go true p = keep p
      go false p = skip p

  pub part-trans : {I J K : List A} → Part I J → Part J K → Part I K
  part-trans p none = p
  part-trans {I = I} p (skip q) = skip (part-trans {I = I} p q)
  part-trans {I = I} (skip p) (keep q) = skip (part-trans {I = I} p q)
  part-trans (keep {x = x} {I = I} p) (keep q) = keep (part-trans {I = I} p q)

  pub part-mem : {I K : List A} → Part I K → (x : A) → Memᴰ x I → Memᴰ x K
  part-mem none x m = m
  part-mem (skip p) x m = mem-tail (part-mem p x m)
  part-mem (keep p) x (mem-head e) = mem-head e
  part-mem (keep p) x (mem-tail m) = mem-tail (part-mem p x m)

  -- a sum over the parts of a set, by its first member
  pub sum-parts : (x : A) (xs : List A) (F : List A → ℤ) → sum (subsets (x ∷ xs)) F ≡ sum (subsets xs) (λ I. F (x ∷ I)) +ℤ sum (subsets xs) F
  sum-parts x xs F = sum-++ (map (λ I. x ∷ I) (subsets xs)) (subsets xs) F ∙ ap (λ z. z +ℤ sum (subsets xs) F) (sum-map (λ I. x ∷ I) (subsets xs) F)

  pub parts-zero : (K : List A) (F : List A → ℤ) → ((I : List A) → Part I K → F I ≡ pos 0) → sum (subsets K) F ≡ pos 0
  parts-zero [] F h = rw (h [] none)
  parts-zero (x ∷ K) F h = sum-parts x K F ∙ rw (parts-zero K (λ I. F (x ∷ I)) (λ I p. h (x ∷ I) (keep p)), parts-zero K F (λ I p. h I (skip p)))

  pub part_length : {I K : List A} → Part I K → length I ≤ length K
  part_length none = zero-le
  part_length (skip p) = let h = part_length p in omega arith
  part_length (keep p) = let h = part_length p in omega arith

  -- only the set itself counts
  pub parts-top : (K : List A) (F : List A → ℤ) → ((I : List A) → Part I K → length I < length K → F I ≡ pos 0) → sum (subsets K) F ≡ F K
  parts-top [] F h = +ℤ_comm (F []) (pos 0) ∙ +ℤ_idl (F [])
  parts-top (x ∷ K) F h = sum-parts x K F
      ∙ rw (
        parts-top K (λ I. F (x ∷ I)) (λ I p l. h (x ∷ I) (keep p) (omega arith)),
        parts-zero K F (λ I p. h I (skip p) (let q = part_length p in omega arith)),
      )
      (+ℤ_comm (F (x ∷ K)) (pos 0) ∙ +ℤ_idl (F (x ∷ K)))

  -- only the empty set counts
  pub parts-bottom : (K : List A) (F : List A → ℤ) → ((I : List A) → Part I K → 0 < length I → F I ≡ pos 0) → sum (subsets K) F ≡ F []
  parts-bottom [] F h = +ℤ_comm (F []) (pos 0) ∙ +ℤ_idl (F [])
  parts-bottom (x ∷ K) F h = sum-parts x K F
      ∙ rw (parts-bottom K F (λ I p l. h I (skip p) l), parts-zero K (λ I. F (x ∷ I)) (λ I p. h (x ∷ I) (keep p) (omega arith))) (+ℤ_idl (F []))

  -- a part of K, or that part with one more member, is a part of K with that member
  pub part-wider : (ps : List A) (i : A) (qs : List A) {J : List A} → Part J (ps ++ qs) → Part J (ps ++ i ∷ qs)
  part-wider [] i qs p = skip p
  part-wider (x ∷ ps) i qs (skip p) = skip (part-wider ps i qs p)
  part-wider (x ∷ ps) i qs (keep p) = keep (part-wider ps i qs p)

  pub part-insert : (ps : List A) (i : A) (qs : List A) {J : List A} → Part J (ps ++ qs) →
      (J₁ : List A) × (J₂ : List A) × (J ≡ J₁ ++ J₂) × Part (J₁ ++ i ∷ J₂) (ps ++ i ∷ qs)
  part-insert [] i qs {J} p = ([], J, refl, keep p)
  part-insert (x ∷ ps) i qs (skip p) = let (J₁, J₂, e, q) = part-insert ps i qs p in (J₁, J₂, e, skip q)
  part-insert (x ∷ ps) i qs (keep p) = let (J₁, J₂, e, q) = part-insert ps i qs p in (x ∷ J₁, J₂, ap (λ l. x ∷ l) e, keep q)

  -- ---- what choose and subsets list

  -- a set of such a list begins with x, or is one of the later sets
  begins : (x : A) (Js Ks : List (List A)) {I : List A} → Memᴰ I (map (λ J. x ∷ J) Js ++ Ks) →
      ((J : List A) × Memᴰ J Js × (x ∷ J ≡ I)) ⊎ Memᴰ I Ks
  begins x Js Ks m = ⊎_elim (λ n. inl (mem-of_map (λ J. x ∷ J) Js n)) inr (mem-append_cases (map (λ J. x ∷ J) Js) m)

  pub choose-part : (j : ℕ) (K : List A) (I : List A) → Memᴰ I (choose j K) → Part I K × (length I ≡ j)
  choose-part zero K I m = rw (mem-of_singleton m) (part-nil K, refl)
  choose-part (suc j) [] I m = absurd (mem-not_nil m)
  choose-part (suc j) (x ∷ K) I m =
      ⊎_elim
      (λ (J, n, e). let (p, l) = choose-part j K J n in subst (λ I. Part I (x ∷ K) × (length I ≡ suc j)) e (keep p, ap suc l))
      (λ n. let (p, l) = choose-part (suc j) K I n in (skip p, l))
      (begins x (choose j K) (choose (suc j) K) m)

  pub part-choose : {I K : List A} → Part I K → Memᴰ I (choose (length I) K)
  part-choose none = mem-head refl
  part-choose (skip {x = x} {I = I} {K = K} p) = wider x K I (part-choose p)
    where
      wider : (x : A) (K I : List A) → Memᴰ I (choose (length I) K) → Memᴰ I (choose (length I) (x ∷ K))
      wider x K [] m = mem-head refl
      wider x K (y ∷ I) m = mem-append_right (map (λ I. x ∷ I) (choose (length I) K)) m
  part-choose (keep {x = x} {I = I} {K = K} p) = mem-append_left (choose (suc (length I)) K) (mem-map (λ I. x ∷ I) (part-choose p))

  pub subsets-part : (K : List A) (I : List A) → Memᴰ I (subsets K) → Part I K
  subsets-part [] I m = rw (mem-of_singleton m) none
  subsets-part (x ∷ K) I m =
      ⊎_elim
      (λ (J, n, e). subst (λ I. Part I (x ∷ K)) e (keep (subsets-part K J n)))
      (λ n. skip (subsets-part K I n))
      (begins x (subsets K) (subsets K) m)

  pub part-subsets : {I K : List A} → Part I K → Memᴰ I (subsets K)
  part-subsets none = mem-head refl
  part-subsets (skip {x = x} {K = K} p) = mem-append_right (map (λ I. x ∷ I) (subsets K)) (part-subsets p)
  part-subsets (keep {x = x} {K = K} p) = mem-append_left (subsets K) (mem-map (λ I. x ∷ I) (part-subsets p))

  -- ---- a part can be filled up to any size

  -- J is made of t members of K, and has all of I
  abbrev pub Filled : List A → List A → ℕ → Type 0
  Filled I K t = (J : List A) × Part I J × Part J K × (length J ≡ t)

  pub part-extend : {I K : List A} → Part I K → (t : ℕ) → length I ≤ t → t ≤ length K → Filled I K t
  part-extend none t h k = ([], none, none, omega arith)
  part-extend (skip {x = x} {I = I} {K = K} p) t h k =
      ⊎_elim
      (λ e. (x ∷ K, skip p, part-all (x ∷ K), sym e))
      (λ l. let (J, a, b, e) = part-extend p t h (omega arith) in (J, a, skip b, e))
      (eq-or-lt_of_le k)
  part-extend (keep p) zero h k = absurd (omega arith)
  part-extend (keep {x = x} p) (suc t) h k = let (J, a, b, e) = part-extend p t (omega arith) (omega arith) in (x ∷ J, keep a, keep b, ap suc e)
