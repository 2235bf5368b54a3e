-- Runs in one cell, and the pairs of them.
use Rattle.exact.proofs.Ground.{◌≡◌, refl, sym, ◌∙◌, ap, ap₂, subst, Bool, true, false, cond, ◌&&◌, ◌⊎◌, inl, inr, List, [], ◌∷◌, map, Memᴰ}
use Rattle.exact.proofs.Ground.{mem-head, mem-tail, mem-not_nil, mem-append_cases, mem-append_left, mem-append_right}
use Rattle.exact.proofs.Ground.{mem-map, mem-of_map, ℕ, suc, ◌<◌, arith, eqb-true, eq-eqb, T, eqb}
use Rattle.exact.specs.Lists.{keep, count}
use Rattle.exact.proofs.Tests.{is_true, true-is, both, join, clash}
use Rattle.exact.proofs.Members.{keep-mem, keep-passes}
use Rattle.counts.specs.Counts.{shows}
use Rattle.tell.specs.Tell.{cell}
use Rattle.tell.specs.Evidence.{agree, pairs}

module _ {A : Type 0} (test : A → Bool) where
  pub mem-keep : {x : A} (xs : List A) → Memᴰ x xs → test x ≡ true → Memᴰ x (keep test xs)
  mem-keep [] m e = m
  mem-keep {x} (y ∷ ys) (mem-head d) e = rw (sym (ap test d) ∙ e) (mem-head d)
  mem-keep {x} (y ∷ ys) (mem-tail m) e = go (test y) (mem-keep ys m e)
    where
      go : (b : Bool) → Memᴰ x (keep test ys) → Memᴰ x (cond b (y ∷ keep test ys) (keep test ys))
      go true n = mem-tail n
      go false n = n

  pub counted : (x : A) (xs : List A) → Memᴰ x xs → test x ≡ true → 0 < count test xs
  counted x [] m e = elim m [ ]
  counted x (y ∷ ys) (mem-head d) e = rw (sym (ap test d) ∙ e) (omega arith)
  counted x (y ∷ ys) (mem-tail m) e = go (test y) (counted x ys m e)
    where
      go : (b : Bool) → 0 < count test ys → 0 < cond b (suc (count test ys)) (count test ys)
      go true h = omega arith
      go false h = h

module _ {R C : Type 0} (entry : R → C → ℕ) where
  pub agree-cell : (J : List C) (f g : R) → agree entry J f g ≡ true → cell entry J f ≡ cell entry J g
  agree-cell [] f g e = refl
  agree-cell (i ∷ J) f g e =
      let (p, q) = both (eqb (entry f i) (entry g i)) (agree entry J f g) (true-is _ e) in
      ap₂ (λ x P. x ∷ P) (eqb-true (entry f i) (entry g i) (is_true _ p)) (agree-cell J f g (is_true _ q))

  -- a run shows the cell of another exactly where they agree
  pub shows-cell : (J : List C) (f g : R) → shows entry f J (cell entry J g) ≡ agree entry J f g
  shows-cell [] f g = refl
  shows-cell (i ∷ J) f g = ap (λ b. eqb (entry f i) (entry g i) && b) (shows-cell J f g)

  agree-self : (J : List C) (f : R) → T (agree entry J f f)
  agree-self [] f = tt
  agree-self (i ∷ J) f = join (eqb (entry f i) (entry f i)) (agree entry J f f) (true-is _ (eq-eqb (entry f i) (entry f i) refl)) (agree-self J f)

  pub cell_agree : (J : List C) (f g : R) → cell entry J f ≡ cell entry J g → agree entry J f g ≡ true
  cell_agree J f g e = sym (shows-cell J f g) ∙ ap (shows entry f J) (sym e) ∙ shows-cell J f f ∙ is_true _ (agree-self J f)

module _ {R C : Type 0} (entry : R → C → ℕ) (a : C) (J : List C) where
  pub record PairIn (rs : List R) (e : R × R) : Type 0 where
    pub left_in : Memᴰ e.0 rs
    pub right-in : Memᴰ e.1 rs
    pub one_cell : cell entry J e.0 ≡ cell entry J e.1

  pub pairs-in : (rs : List R) (e : R × R) → Memᴰ e (pairs entry a J rs) → PairIn rs e
  pairs-in [] e m = absurd (mem-not_nil m)
  pairs-in (f ∷ rs) e m = go (mem-append_cases (map (λ g. (f, g)) (keep (agree entry J f) rs)) m) (pairs-in rs e)
    where
      go : Memᴰ e (map (λ g. (f, g)) (keep (agree entry J f) rs)) ⊎ Memᴰ e (pairs entry a J rs) →
          (Memᴰ e (pairs entry a J rs) → PairIn rs e) → PairIn (f ∷ rs) e
      go (inl n) later =
          let (g, k, d) = mem-of_map (λ g. (f, g)) (keep (agree entry J f) rs) n in
          subst (PairIn (f ∷ rs)) d (record {
            left_in = mem-head refl;
            right-in = mem-tail (keep-mem (agree entry J f) rs g k);
            one_cell = agree-cell entry J f g (keep-passes (agree entry J f) rs g k);
          })
      go (inr n) later = let I = later n in
          record { left_in = mem-tail I.left_in; right-in = mem-tail I.right-in; one_cell = I.one_cell }

  -- two runs in one cell are the same run or a pair, one way or the other
  abbrev pub Paired : List R → R → R → Type 0
  Paired rs f g = (f ≡ g) ⊎ (Memᴰ (f, g) (pairs entry a J rs) ⊎ Memᴰ (g, f) (pairs entry a J rs))

  first-pair : (f : R) (rs : List R) (g : R) → Memᴰ g rs → cell entry J f ≡ cell entry J g → Memᴰ (f, g) (pairs entry a J (f ∷ rs))
  first-pair f rs g m e =
      mem-append_left (pairs entry a J rs) (mem-map (λ g. (f, g)) (mem-keep (agree entry J f) rs m (cell_agree entry J f g e)))

  pub pairs-all : (rs : List R) (f g : R) → Memᴰ f rs → Memᴰ g rs → cell entry J f ≡ cell entry J g → Paired rs f g
  pairs-all [] f g m n e = absurd (mem-not_nil m)
  pairs-all (h ∷ rs) f g (mem-head c) (mem-head d) e = inl (c ∙ sym d)
  pairs-all (h ∷ rs) f g (mem-head c) (mem-tail n) e =
      inr (inl (subst (λ f. Memᴰ (f, g) (pairs entry a J (h ∷ rs))) (sym c) (first-pair h rs g n (sym (ap (cell entry J) c) ∙ e))))
  pairs-all (h ∷ rs) f g (mem-tail m) (mem-head d) e =
      inr (inr (subst (λ g. Memᴰ (g, f) (pairs entry a J (h ∷ rs))) (sym d) (first-pair h rs f m (sym (ap (cell entry J) d) ∙ sym e))))
  pairs-all (h ∷ rs) f g (mem-tail m) (mem-tail n) e = go (pairs-all rs f g m n e)
    where
      go : Paired rs f g → Paired (h ∷ rs) f g
      go (inl c) = inl c
      go (inr (inl k)) = inr (inl (mem-append_right (map (λ g. (h, g)) (keep (agree entry J h) rs)) k))
      go (inr (inr k)) = inr (inr (mem-append_right (map (λ g. (h, g)) (keep (agree entry J h) rs)) k))

module _ {R C X : Type 0} (entry : R → C → ℕ) (J : List C) (figure : R → X) (none : X) where
  -- the figure of the first of the runs in cell c
  abbrev pub in_cell : List R → List ℕ → X
  in_cell [] c = none
  in_cell (f ∷ rs) c = cond (shows entry f J c) (figure f) (in_cell rs c)

  -- a figure that is the same in one cell is that of the cell
  pub in-cell : (rs : List R) (g : R) → Memᴰ g rs → ((f : R) → Memᴰ f rs → cell entry J f ≡ cell entry J g → figure f ≡ figure g) →
      in_cell rs (cell entry J g) ≡ figure g
  in-cell [] g m h = absurd (mem-not_nil m)
  in-cell (f ∷ rs) g m h =
      rw (shows-cell entry J f g) (go (agree entry J f g) refl m (λ n. in-cell rs g n (λ f k. h f (mem-tail k))))
    where
      later : X
      later = in_cell rs (cell entry J g)

      go : (b : Bool) → agree entry J f g ≡ b → Memᴰ g (f ∷ rs) → (Memᴰ g rs → later ≡ figure g) → cond b (figure f) later ≡ figure g
      go true e n ih = h f (mem-head refl) (agree-cell entry J f g e)
      go false e (mem-head d) ih = clash (agree entry J f g) (cell_agree entry J f g (ap (cell entry J) (sym d))) e
      go false e (mem-tail n) ih = ih n
