-- The runs can compare two levels exactly where a chain of pairs of runs leads from one to the other, and the groups are those of such levels.
use Rattle.exact.proofs.Ground.{◌≡◌, refl, sym, ◌∙◌, ap, subst, Bool, true, false, cond, ◌⊎◌, inl, inr, List, [], ◌∷◌, map, Memᴰ, mem-head}
use Rattle.exact.proofs.Ground.{mem-tail, mem-not_nil, mem-map, mem-of_map, ℕ, ◌≤◌, ◌<◌, arith, eq-eqb, T, eqb, ℤ, pos, nat_abs}
use mathlib.Core.Logic.{◌↔◌}
use Rattle.exact.specs.Lists.{from, alike}
use Rattle.exact.proofs.Tests.{true-is, clash}
use Rattle.exact.proofs.Members.{some-fails}
use Rattle.counts.proofs.Counted.{alike-first}
use Rattle.tell.specs.Tell.{cell, Compares, Tells, CannotTell, Split, Meet, Chain, here, over}
use Rattle.tell.specs.Evidence.{group_of, pairs, left_level, right_level, groups, tells}
use Rattle.tell.proofs.Grouping.{Named, Equivalence, Inside, own-group, own-groups, grouped-named, grouped-joins, grouped-alike}
use Rattle.tell.proofs.Cells.{pairs-in, Paired, pairs-all, in_cell, in-cell}

abbrev figure : Bool → ℤ
figure b = cond b (pos 1) (pos 0)

-- ---- chains

module _ {R C : Type 0} (entry : R → C → ℕ) (rs : List R) (a : C) (J : List C) where
  turned : {x y : ℕ} → Meet entry rs a J x y → Meet entry rs a J y x
  turned m = record {
    left = m.right;
    right = m.left;
    left_in = m.right-in;
    right-in = m.left_in;
    left-level = m.right-level;
    right-level = m.left-level;
    one_cell = sym m.one_cell;
  }

  then : {x y z : ℕ} → Chain entry rs a J x y → Chain entry rs a J y z → Chain entry rs a J x z
  then here d = d
  then (over m c) d = over m (then c d)

  back : {x y : ℕ} → Chain entry rs a J x y → Chain entry rs a J y x
  back here = here
  back (over m c) = then (back c) (over (turned m) here)

  pub chains : Equivalence (Chain entry rs a J)
  chains = record { start = here; turn = back; via = then }

  -- an effect of column a that J acting together can give is the same all along a chain, whatever its figures are
  pub chain-figures : {X : Type 0} (u : ℕ → X) (v : List ℕ → X) → ((f : R) → Memᴰ f rs → u (entry f a) ≡ v (cell entry J f)) →
      {x y : ℕ} → Chain entry rs a J x y → u x ≡ u y
  chain-figures u v h here = refl
  chain-figures u v h (over m c) =
      ap u (sym m.left-level) ∙ h m.left m.left_in ∙ ap v m.one_cell ∙ sym (h m.right m.right-in) ∙ ap u m.right-level
      ∙ chain-figures u v h c

  -- never both
  pub not-both : Tells entry rs a J → CannotTell entry rs a J → ⊥
  not-both t c = c.apart (t c.one c.other c.one_in c.other-in c.alone c.together c.same-figures)

  -- a split is an effect of 1 on the one side and 0 on the other
  pub split-cannot : Split entry rs a J → CannotTell entry rs a J
  split-cannot S = record {
    alone = λ x. figure (S.side x);
    together = λ P. figure (S.cell_side P);
    same-figures = λ f m. ap figure (S.same-side f m);
    one = S.one;
    other = S.other;
    one_in = S.one_in;
    other-in = S.other-in;
    apart = λ e. let z : ◌≡◌ {A = ℕ} 1 0 = ap nat_abs (sym (ap figure S.one_side) ∙ e ∙ ap figure S.other-side) in omega arith;
  }

-- ---- whether numbers are alike

alike-mem : (xs : List ℕ) → T (alike xs) → (x y : ℕ) → Memᴰ x xs → Memᴰ y xs → x ≡ y
alike-mem [] t x y m n = absurd (mem-not_nil m)
alike-mem (z ∷ zs) t x y m n = sym (alike-first z zs t x m) ∙ alike-first z zs t y n

module _ {A : Type 0} (n : A → ℕ) where
  abbrev Unlike : List A → Type 0
  Unlike xs = (x : A) × (y : A) × Memᴰ x xs × Memᴰ y xs × (eqb (n x) (n y) ≡ false)

  unlike : (xs : List A) → alike (map n xs) ≡ false → Unlike xs
  unlike [] e = clash true refl e
  unlike (x ∷ xs) e =
      let (k, m, d) = some-fails (λ k. eqb (n x) k) (map n xs) e in
      let (y, l, c) = mem-of_map n xs m in
      (x, y, mem-head refl, mem-tail l, ap (λ k. eqb (n x) k) c ∙ d)

-- ---- groups

module _ {R C : Type 0} (entry : R → C → ℕ) (rs : List R) (a : C) (J : List C) (s : ℕ)
    (below : (f : R) → Memᴰ f rs → entry f a < s) where
  abbrev pub G : List ℕ
  G = groups entry a J s rs

  inside : Inside (left_level entry a J) (right_level entry a J) s (pairs entry a J rs)
  inside e m = let I = pairs-in entry a J rs e m in (below e.0 I.left_in, below e.1 I.right-in)

  pub groups-named : Named s G
  unfolding groups
  groups-named = grouped-named (left_level entry a J) (right_level entry a J) s (pairs entry a J rs) (from 0 s) inside (own-groups s)

  -- runs in one cell have levels of one group
  pub cell-group : (f g : R) → Memᴰ f rs → Memᴰ g rs → cell entry J f ≡ cell entry J g → group_of G (entry f a) ≡ group_of G (entry g a)
  unfolding groups
  cell-group f g m n e = go (pairs-all entry a J rs f g m n e)
    where
      joins : (e : R × R) → Memᴰ e (pairs entry a J rs) → group_of G (entry e.0 a) ≡ group_of G (entry e.1 a)
      joins = grouped-joins (left_level entry a J) (right_level entry a J) s (pairs entry a J rs) (from 0 s) inside (own-groups s)

      go : Paired entry a J rs f g → group_of G (entry f a) ≡ group_of G (entry g a)
      go (inl d) = ap (λ f. group_of G (entry f a)) d
      go (inr (inl k)) = joins (f, g) k
      go (inr (inr k)) = sym (joins (g, f) k)

  pub group-chain : (x y : ℕ) → x < s → y < s → group_of G x ≡ group_of G y → Chain entry rs a J x y
  unfolding groups
  group-chain =
      grouped-alike (left_level entry a J) (right_level entry a J) s (Chain entry rs a J) (chains entry rs a J) (pairs entry a J rs) (from 0 s) inside
      (own-groups s) (λ e m. let I = pairs-in entry a J rs e m in
      over (record {
        left = e.0;
        right = e.1;
        left_in = I.left_in;
        right-in = I.right-in;
        left-level = refl;
        right-level = refl;
        one_cell = I.one_cell;
      }) here)
      (λ x y h k d. subst (Chain entry rs a J x) (sym (own-group s x h) ∙ d ∙ own-group s y k) here)

  -- ---- the theorem

  -- the group is an effect of column a that J acting together gives too
  abbrev pub cell_group : List ℕ → ℕ
  cell_group = in_cell entry J (λ f. group_of G (entry f a)) 0 rs

  pub group-figures : (f : R) → Memᴰ f rs → group_of G (entry f a) ≡ cell_group (cell entry J f)
  group-figures g m = sym (in-cell entry J (λ f. group_of G (entry f a)) 0 rs g m (λ f n e. cell-group f g n m e))

  pub compares-group : (x y : ℕ) → Compares entry rs a J x y → group_of G x ≡ group_of G y
  compares-group x y c = ap nat_abs (c (λ z. pos (group_of G z)) (λ P. pos (cell_group P)) (λ f m. ap pos (group-figures f m)))

  pub compares-iff : (x y : ℕ) → x < s → y < s → (Compares entry rs a J x y ↔ (group_of G x ≡ group_of G y))
  compares-iff x y h k = (compares-group x y, λ e u v p. chain-figures entry rs a J u v p (group-chain x y h k e))

  pub compares-chain : (x y : ℕ) → x < s → y < s → (Compares entry rs a J x y ↔ Chain entry rs a J x y)
  compares-chain x y h k = (λ c. group-chain x y h k (compares-group x y c), λ c u v p. chain-figures entry rs a J u v p c)

  -- the levels that occur are in one group
  abbrev pub OneGroup : Type 0
  OneGroup = (f g : R) → Memᴰ f rs → Memᴰ g rs → group_of G (entry f a) ≡ group_of G (entry g a)

  pub tells-group : tells entry a J s rs ≡ true → OneGroup
  unfolding tells
  tells-group e f g m n =
      alike-mem (map (λ f. group_of G (entry f a)) rs) (true-is _ e) (group_of G (entry f a)) (group_of G (entry g a))
      (mem-map (λ f. group_of G (entry f a)) m) (mem-map (λ f. group_of G (entry f a)) n)

  -- the answer is that of the question
  pub tells-yes : tells entry a J s rs ≡ true → Tells entry rs a J
  tells-yes e f g m n = (compares-iff (entry f a) (entry g a) (below f m) (below g n)).1 (tells-group e f g m n)

  -- one group on one side, and all others on the other
  pub tells-split : tells entry a J s rs ≡ false → Split entry rs a J
  unfolding tells
  tells-split e =
      let (f, g, m, n, d) = unlike (λ f. group_of G (entry f a)) rs e in
      let k = group_of G (entry f a) in
      record {
        side = λ x. eqb k (group_of G x);
        cell_side = in_cell entry J (λ f. eqb k (group_of G (entry f a))) false rs;
        same-side = λ g m. sym (in-cell entry J (λ f. eqb k (group_of G (entry f a))) false rs g m (λ h n c. ap (eqb k) (cell-group h g n m c)));
        one = f;
        other = g;
        one_in = m;
        other-in = n;
        one_side = eq-eqb k k refl;
        other-side = d;
      }

  pub tells-no : tells entry a J s rs ≡ false → CannotTell entry rs a J
  tells-no e = split-cannot entry rs a J (tells-split e)

  pub tells-iff : Tells entry rs a J ↔ (tells entry a J s rs ≡ true)
  tells-iff = (λ t. go (tells entry a J s rs) refl t, tells-yes)
    where
      go : (b : Bool) → tells entry a J s rs ≡ b → Tells entry rs a J → tells entry a J s rs ≡ true
      go true e t = e
      go false e t = absurd (not-both entry rs a J t (tells-no e))

  pub cannot-iff : CannotTell entry rs a J ↔ (tells entry a J s rs ≡ false)
  cannot-iff = (λ c. go (tells entry a J s rs) refl c, tells-no)
    where
      go : (b : Bool) → tells entry a J s rs ≡ b → CannotTell entry rs a J → tells entry a J s rs ≡ false
      go true e c = absurd (not-both entry rs a J (tells-yes e) c)
      go false e c = e

  -- one or the other, never both
  pub decided : Tells entry rs a J ⊎ CannotTell entry rs a J
  decided = go (tells entry a J s rs) refl
    where
      go : (b : Bool) → tells entry a J s rs ≡ b → Tells entry rs a J ⊎ CannotTell entry rs a J
      go true e = inl (tells-yes e)
      go false e = inr (tells-no e)

  -- what is told is told whatever the figures are: numbers, fractions, vectors
  pub tells-any : {X : Type 0} → Tells entry rs a J → (u : ℕ → X) (v : List ℕ → X) →
      ((f : R) → Memᴰ f rs → u (entry f a) ≡ v (cell entry J f)) → (f g : R) → Memᴰ f rs → Memᴰ g rs → u (entry f a) ≡ u (entry g a)
  tells-any t u v h f g m n =
      chain-figures entry rs a J u v h ((compares-chain (entry f a) (entry g a) (below f m) (below g n)).0 (t f g m n))

  -- ---- the name of a group is the lowest level that can be compared with its levels

  pub group-lowest : (x y : ℕ) → x < s → y < s → Compares entry rs a J x y → group_of G x ≤ y
  group-lowest x y h k c = omega (arith, compares-group x y c, groups-named.low y k)

  pub group-compares : (x : ℕ) → x < s → Compares entry rs a J x (group_of G x)
  group-compares x h = (compares-iff x (group_of G x) h (omega (arith, groups-named.low x h))).1 (sym (groups-named.own x h))
