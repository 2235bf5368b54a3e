-- What telling means in a model, and what more runs, another order, fewer columns and a column of one level do to it.
use Rattle.exact.proofs.Ground.{◌≡◌, sym, ◌∙◌, ap, ap₂, List, [], ◌∷◌, Memᴰ, mem-head, mem-tail, ℕ, ◌≤◌, ◌<◌, arith, get_or, drop}
use Rattle.exact.proofs.Ground.{ext_get_or, ℤ, pos, nat_abs, neg_ℤ, ◌+ℤ◌, ◌-ℤ◌, +ℤ_idl}
use lib.IntN.{+ℤ_invr, -ℤ-+ℤ_cancel}
use mathlib.Core.Logic.{◌↔◌}
use native.Mathlib.Nat.{le_antisymm}
use Rattle.exact.proofs.Ring.{ring}
use Rattle.exact.proofs.Lists.{map-cong-in}
use Rattle.tell.specs.Tell.{cell, Compares, Tells, CannotTell, Estimable}
use Rattle.tell.specs.Evidence.{group_of, groups}
use Rattle.tell.proofs.Cells.{in_cell, in-cell}
use Rattle.tell.proofs.Telling.{groups-named, compares-group, group-compares}

-- ---- in the words of a model

moved : (a b c d : ℤ) → a +ℤ b ≡ c +ℤ d → a -ℤ c ≡ d -ℤ b
moved a b c d e = left a b c ∙ ap (λ z. z -ℤ (c +ℤ b)) e ∙ right b c d
  where
    left : (a b c : ℤ) → a -ℤ c ≡ (a +ℤ b) -ℤ (c +ℤ b)
    left a b c = simp ring

    right : (b c d : ℤ) → (c +ℤ d) -ℤ (c +ℤ b) ≡ d -ℤ b
    right b c d = simp ring

module _ {R C : Type 0} (entry : R → C → ℕ) (rs : List R) (a : C) (J : List C) where
  -- two levels can be compared exactly where their difference is estimable in the model of column a and J acting together
  pub estimable-iff : (x y : ℕ) → (Estimable entry rs a J x y ↔ Compares entry rs a J x y)
  estimable-iff x y = (from-model, to-model)
    where
      zero-diff : (p q : ℤ) → p -ℤ q ≡ pos 0 -ℤ pos 0 → p ≡ q
      zero-diff p q e = sym (-ℤ-+ℤ_cancel p q) ∙ ap (λ z. z +ℤ q) e ∙ +ℤ_idl q

      from-model : Estimable entry rs a J x y → Compares entry rs a J x y
      from-model E u v h =
          zero-diff (u x) (u y) (E u (λ z. pos 0) (λ P. neg_ℤ (v P)) (λ P. pos 0)
          (λ f m. ap (λ z. z +ℤ neg_ℤ (v (cell entry J f))) (h f m) ∙ +ℤ_invr (v (cell entry J f))))

      to-model : Compares entry rs a J x y → Estimable entry rs a J x y
      to-model c u u' v v' h =
          let e : u x -ℤ u' x ≡ u y -ℤ u' y
          = c (λ z. u z -ℤ u' z) (λ P. v' P -ℤ v P) (λ f m. moved (u (entry f a)) (v (cell entry J f)) (u' (entry f a)) (v' (cell entry J f)) (h f m)) in
          swap (u x) (u' x) (u y) (u' y) e
        where
          swap : (p q r t : ℤ) → p -ℤ q ≡ r -ℤ t → p -ℤ r ≡ q -ℤ t
          swap p q r t e = first p q r ∙ ap (λ z. z +ℤ (q -ℤ r)) e ∙ second q r t
            where
              first : (p q r : ℤ) → p -ℤ r ≡ (p -ℤ q) +ℤ (q -ℤ r)
              first p q r = simp ring

              second : (q r t : ℤ) → (r -ℤ t) +ℤ (q -ℤ r) ≡ q -ℤ t
              second q r t = simp ring

-- ---- runs

-- every run of the one is a run of the other
abbrev pub Among : {A : Type 0} → List A → List A → Type 0
Among {A} xs ys = (x : A) → Memᴰ x xs → Memᴰ x ys

module _ {R C : Type 0} (entry : R → C → ℕ) (a : C) (J : List C) where
  -- what can be compared can be compared with more runs: a loss only takes away
  pub compares-more : {rs more : List R} → Among rs more → (x y : ℕ) → Compares entry rs a J x y → Compares entry more a J x y
  compares-more i x y c u v h = c u v (λ f m. h f (i f m))

  -- every level of column a that occurs in the one occurs in the other
  abbrev pub Occurring : List R → List R → Type 0
  Occurring more rs = (f : R) → Memᴰ f more → (g : R) × Memᴰ g rs × (entry g a ≡ entry f a)

  pub tells_more : {rs more : List R} → Among rs more → Occurring more rs → Tells entry rs a J → Tells entry more a J
  tells_more {rs} {more} i o t f g m n u v h =
      let (f', m', d) = o f m in
      let (g', n', e) = o g n in
      ap u (sym d) ∙ t f' g' m' n' u v (λ k l. h k (i k l)) ∙ ap u e

  -- runs that could not tell cannot after a loss that leaves every level occurring
  pub cannot-fewer : {rs more : List R} → Among rs more → Occurring more rs → CannotTell entry more a J → CannotTell entry rs a J
  cannot-fewer {rs} {more} i o c =
      let (f, m, d) = o c.one c.one_in in
      let (g, n, e) = o c.other c.other-in in
      record {
        alone = c.alone;
        together = c.together;
        same-figures = λ k l. c.same-figures k (i k l);
        one = f;
        other = g;
        one_in = m;
        other-in = n;
        apart = λ b. c.apart (sym (ap c.alone d) ∙ b ∙ ap c.alone e);
      }

  -- the order of the runs, and how often one is repeated, change nothing
  pub tells-order : {rs others : List R} → Among rs others → Among others rs → (Tells entry rs a J ↔ Tells entry others a J)
  tells-order i j = (λ t f g m n u v h. t f g (j f m) (j g n) u v (λ k l. h k (i k l)), λ t f g m n u v h. t f g (i f m) (i g n) u v (λ k l. h k (j k l)))

  module _ (s : ℕ) (rs others : List R) (below : (f : R) → Memᴰ f rs → entry f a < s) (below' : (f : R) → Memᴰ f others → entry f a < s) where
    -- more runs: lower names, that is larger groups
    group-more : Among rs others → (x : ℕ) → x < s → group_of (groups entry a J s others) x ≤ group_of (groups entry a J s rs) x
    group-more i x h =
        let k = (groups-named entry rs a J s below).low x h in
        let e = compares-group entry others a J s below' x (group_of (groups entry a J s rs) x)
        (compares-more i x (group_of (groups entry a J s rs) x) (group-compares entry rs a J s below x h)) in
        omega (arith, (groups-named entry others a J s below').low (group_of (groups entry a J s rs) x) (omega arith))

module _ {R C : Type 0} (entry : R → C → ℕ) (a : C) (J : List C) (s : ℕ) (rs others : List R)
    (below : (f : R) → Memᴰ f rs → entry f a < s) (below' : (f : R) → Memᴰ f others → entry f a < s) where
  pub groups-order : Among rs others → Among others rs → groups entry a J s rs ≡ groups entry a J s others
  groups-order i j =
      let N = groups-named entry rs a J s below in
      let M = groups-named entry others a J s below' in
      ext_get_or 0 (groups entry a J s rs) (groups entry a J s others) (N.size ∙ sym M.size) (λ x h.
      let k : x < s = rw N.size at h in
      le_antisymm (group-more entry a J s others rs below' below j x k) (group-more entry a J s rs others below below' i x k))

-- ---- columns

module _ {R C : Type 0} (entry : R → C → ℕ) where
  cell_at : {k : C} (J : List C) (f g : R) → Memᴰ k J → cell entry J f ≡ cell entry J g → entry f k ≡ entry g k
  cell_at [] f g m e = elim m [ ]
  cell_at (j ∷ J) f g (mem-head d) e = ap (entry f) d ∙ ap (λ P. get_or P 0 0) e ∙ sym (ap (entry g) d)
  cell_at (j ∷ J) f g (mem-tail m) e = cell_at J f g m (ap (drop 1) e)

  pub cell-fewer : (I J : List C) → Among I J → (f g : R) → cell entry J f ≡ cell entry J g → cell entry I f ≡ cell entry I g
  cell-fewer I J i f g e = map-cong-in I (λ k m. cell_at J f g (i k m) e)

module _ {R C : Type 0} (entry : R → C → ℕ) (rs : List R) (a : C) where
  -- an effect of column a that is the same in one cell sets no levels apart that can be compared
  pub compares-by : (J : List C) (x y : ℕ) → Compares entry rs a J x y → (u : ℕ → ℤ) →
      ((f g : R) → Memᴰ f rs → Memᴰ g rs → cell entry J f ≡ cell entry J g → u (entry f a) ≡ u (entry g a)) → u x ≡ u y
  compares-by J x y c u h =
      c u (in_cell entry J (λ f. u (entry f a)) (pos 0) rs)
      (λ g m. sym (in-cell entry J (λ f. u (entry f a)) (pos 0) rs g m (λ f n e. h f g n m e)))

  -- what is told from J acting together is told from fewer columns acting together, in any order
  pub compares-fewer : (I J : List C) → Among I J → (x y : ℕ) → Compares entry rs a J x y → Compares entry rs a I x y
  compares-fewer I J i x y c u v h = compares-by J x y c u (λ f g m n e. h f m ∙ ap v (cell-fewer entry I J i f g e) ∙ sym (h g n))

  -- from no column at all: always
  pub tells-nothing : Tells entry rs a []
  tells-nothing f g m n u v h = h f m ∙ sym (h g n)

  -- from itself: only where one level occurs
  pub tells-itself : (J : List C) → Memᴰ a J → Tells entry rs a J → (f g : R) → Memᴰ f rs → Memᴰ g rs → entry f a ≡ entry g a
  tells-itself J m t f g k l =
      ap nat_abs (compares-by J (entry f a) (entry g a) (t f g k l) pos (λ f g k l e. ap pos (cell_at entry J f g m e)))

  -- where one level occurs there is nothing to tell
  pub tells-one-level : (J : List C) → ((f g : R) → Memᴰ f rs → Memᴰ g rs → entry f a ≡ entry g a) → Tells entry rs a J
  tells-one-level J e f g m n u v h = ap u (e f g m n)

  -- a column that has one level in the runs changes nothing
  pub compares-constant : (i : C) (J : List C) → ((f g : R) → Memᴰ f rs → Memᴰ g rs → entry f i ≡ entry g i) → (x y : ℕ) →
      (Compares entry rs a (i ∷ J) x y ↔ Compares entry rs a J x y)
  compares-constant i J e x y = (
    compares-fewer J (i ∷ J) (λ k m. mem-tail m) x y,
    λ c u v h. compares-by J x y c u (λ f g m n d. h f m ∙ ap v (ap₂ (λ k P. k ∷ P) (e f g m n) d) ∙ sym (h g n)),
  )

  -- one cell in which every level that occurs occurs is enough
  pub tells-full : (J : List C) (P : List ℕ) →
      ((f : R) → Memᴰ f rs → (g : R) × Memᴰ g rs × (cell entry J g ≡ P) × (entry g a ≡ entry f a)) → Tells entry rs a J
  tells-full J P full f g m n u v h =
      let (f', m', c, d) = full f m in
      let (g', n', c', d') = full g n in
      ap u (sym d) ∙ h f' m' ∙ ap v (c ∙ sym c') ∙ sym (h g' n') ∙ ap u d'
