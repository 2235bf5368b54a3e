-- From the words: where those of column a with every set of columns of J, added up, times s - 1 are below n², one cell has every level of
-- column a, and so the runs tell. A cell that lacks a level has its others in a column of s - 1 levels, whose words are not negative.
use Rattle.exact.proofs.Ground.{◌≡◌, refl, sym, ◌∙◌, ap, subst, Bool, true, false, cond, ◌⊎◌, inl, inr, List, [], ◌∷◌, map, Memᴰ, mem-head}
use Rattle.exact.proofs.Ground.{mem-tail, mem-of_map, ℕ, zero, suc, ◌-◌, ◌≤◌, ◌<◌, zero-le, ℕ_discrete, arith, eqb-false, T, eqb, ltb, eqb→eq}
use Rattle.exact.proofs.Ground.{ltb→lt, length, ℤ, pos, neg_ℤ, ◌+ℤ◌, ◌*ℤ◌, +ℤ_idl, *ℤ-zero, ◌≤ℤ◌, mul-le-mul_right, suc-mul, dec_lt, nat_abs, ◌*◌}
use lib.Dec.{nltb→le, lt→ltb}
use lib.IntN.{suc_ℤ-*ℤ}
use lib.Signed.{◌<ℤ◌, ≤ℤ_refl, clash_ℤ, lt_z_yes}
use mathlib.Core.Path.{subst₂}
use native.Mathlib.Nat.{mul_comm}
use Rattle.exact.specs.Lists.{sum, prod, count, first, all}
use Rattle.exact.specs.declared.fractions.Fraction.{Fraction}
use Rattle.exact.specs.Fractions.{reduced}
use Rattle.exact.proofs.Ring.{ring, *-assoc, *-swap}
use Rattle.exact.proofs.Order.{≤-+, ≤_trans, *-mono, nonneg, is_pos, 0≤-*}
use Rattle.exact.proofs.Tests.{is_true, true-is, both, all-mem}
use Rattle.exact.proofs.Members.{some-fails}
use Rattle.exact.proofs.Searches.{first-is}
use Rattle.exact.proofs.Reduced.{reduced-den-≤, reduced-value}
use Rattle.exact.proofs.Sums.{sum-cong, sum-cong-in, sum-*, prod-0}
use Rattle.sets.specs.Sets.{subsets}
use Rattle.sets.proofs.Parts.{keep, part-nil, part-mem, sum-parts, subsets-part, part-subsets}
use Rattle.words.specs.Words.{word_of}
use Rattle.words.proofs.Squares.{agree, agree_same, agree-not}
use Rattle.words.specs.Entries.{Below, AllBelow}
use Rattle.words.proofs.Positive.{sum_nonneg, word_of-nonneg}
use Rattle.counts.specs.Counts.{shows, tally}
use Rattle.counts.proofs.Ceiling.{both as met, agreeing, agreeing-parts, word_of-nil}
use Rattle.tell.specs.Tell.{cell, Tells}
use Rattle.tell.specs.Words.{mixed_words, words_figure}
use Rattle.tell.specs.Evidence.{agree as together}
use Rattle.tell.proofs.Cells.{counted, agree-cell, shows-cell, cell_agree}
use Rattle.tell.proofs.Laws.{tells-full}

-- ---- counts

module _ {A : Type 0} (test : A → Bool) where
  found : (xs : List A) → 0 < count test xs → (x : A) × Memᴰ x xs × (test x ≡ true)
  found [] h = absurd (omega arith)
  found (y ∷ ys) h = go (test y) refl h (found ys)
    where
      go : (b : Bool) → test y ≡ b → 0 < cond b (suc (count test ys)) (count test ys) →
          (0 < count test ys → (x : A) × Memᴰ x ys × (test x ≡ true)) → (x : A) × Memᴰ x (y ∷ ys) × (test x ≡ true)
      go true e h later = (y, mem-head refl, e)
      go false e h later = let (x, m, d) = later h in (x, mem-tail m, d)

module _ {A : Type 0} where
  -- no term is above a sum of terms that are not negative
  term-le : (xs : List A) (f : A → ℤ) → ((x : A) → Memᴰ x xs → pos 0 ≤ℤ f x) → (x : A) → Memᴰ x xs → f x ≤ℤ sum xs f
  term-le [] f h x m = elim m [ ]
  term-le (y ∷ ys) f h x (mem-head d) =
      subst₂ (λ p q. p ≤ℤ q) (sym (ap f d)) refl
      (subst (λ z. z ≤ℤ sum (y ∷ ys) f) (swap (f y)) (≤-+ (≤ℤ_refl (f y)) (sum_nonneg ys f (λ z n. h z (mem-tail n)))))
    where
      swap : (p : ℤ) → p +ℤ pos 0 ≡ p
      swap p = simp ring
  term-le (y ∷ ys) f h x (mem-tail m) =
      subst (λ z. z ≤ℤ sum (y ∷ ys) f) (+ℤ_idl (f x)) (≤-+ (h y (mem-head refl)) (term-le ys f (λ z n. h z (mem-tail n)) x m))

prod-map : {A B : Type 0} (h : A → B) (xs : List A) (f : B → ℤ) → prod (map h xs) f ≡ prod xs (λ x. f (h x))
prod-map h [] f = refl
prod-map h (x ∷ xs) f = ap (λ z. f (h x) *ℤ z) (prod-map h xs f)

-- a reduced fraction below 1 is that of a number below the other
below_one : (a b : ℕ) → (reduced a b).num < (reduced a b).den → a < b
below_one a b h = go (dec_lt a b)
  where
    go : Dec (a < b) → a < b
    go (yes l) = l
    go (no l) =
        let most : b * (reduced a b).den ≤ a * (reduced a b).den = mul-le-mul_right (reduced a b).den (omega arith) in
        let more : suc (reduced a b).num * b ≤ (reduced a b).den * b = mul-le-mul_right b (omega arith) in
        let turn : (reduced a b).den * b ≡ b * (reduced a b).den = mul_comm (reduced a b).den b in
        let next = suc-mul (reduced a b).num b in
        absurd (omega (arith, reduced-value a b, reduced-den-≤ a b))

-- ---- one level left out

squeeze : ℕ → ℕ → ℕ
squeeze y x = cond (ltb x y) x (x - 1)

squeeze-ind : (y x : ℕ) (P : ℕ → Type 0) → ¬ (x ≡ y) → (x < y → P x) → (y < x → P (x - 1)) → P (squeeze y x)
unfolding squeeze
squeeze-ind y x P n f g = go (ltb x y) refl
  where
    go : (b : Bool) → ltb x y ≡ b → P (cond b x (x - 1))
    go true e = f (ltb→lt x y (rw e tt))
    go false e = g (let h = nltb→le x y (rw e tt) in omega arith)

squeeze-below : (y x s : ℕ) → ¬ (x ≡ y) → x < s → y < s → squeeze y x < s - 1
squeeze-below y x s n h k = squeeze-ind y x (λ z. z < s - 1) n (λ l. omega arith) (λ l. omega arith)

squeeze-agree : (y x z : ℕ) → ¬ (x ≡ y) → ¬ (z ≡ y) → agree (squeeze y x) (squeeze y z) ≡ agree x z
squeeze-agree y x z n m = go (ℕ_discrete x z)
  where
    apart : ¬ (x ≡ z) → ¬ (squeeze y x ≡ squeeze y z)
    apart d =
        squeeze-ind y x (λ p. ¬ (p ≡ squeeze y z)) n
        (λ l. squeeze-ind y z (λ q. ¬ (x ≡ q)) m (λ k. d) (λ k e. omega arith))
        (λ l. squeeze-ind y z (λ q. ¬ (x - 1 ≡ q)) m (λ k e. omega arith) (λ k e. d (omega arith)))

    go : Dec (x ≡ z) → agree (squeeze y x) (squeeze y z) ≡ agree x z
    go (yes e) = ap (λ w. agree (squeeze y w) (squeeze y z)) e ∙ agree_same (squeeze y z) ∙ sym (ap (λ w. agree w z) e ∙ agree_same z)
    go (no e) = agree-not {a = squeeze y x} {b = squeeze y z} (apart e) ∙ sym (agree-not {a = x} {b = z} e)

-- ---- a plan with one column more

data Column (C : Type 0) : Type 0 where
  fresh : Column C
  kept : C → Column C

abbrev level_of : {C : Type 0} → ℕ → (C → ℕ) → Column C → ℕ
level_of s level fresh = s
level_of s level (kept i) = level i

abbrev entry_of : {R C : Type 0} → (R → ℕ) → (R → C → ℕ) → R → Column C → ℕ
entry_of e entry f fresh = e f
entry_of e entry f (kept i) = entry f i

module _ {R C : Type 0} (level : C → ℕ) (entry : R → C → ℕ) (rs : List R) where
  -- a column of t levels with the entries e
  module _ (t : ℕ) (e : R → ℕ) (J : List C) where
    -- the pairs that agree in J and in that column
    abbrev agreeing_in : ℤ
    agreeing_in = sum rs (λ f. sum rs (λ g. agree (e f) (e g) *ℤ prod J (met level entry rs f g)))

    -- they are at least one in t of the pairs that agree in J
    agreeing-in : AllBelow level entry rs J → 0 < t → ((f : R) → Memᴰ f rs → e f < t) → agreeing level entry rs J ≤ℤ (pos t *ℤ agreeing_in)
    unfolding agreeing
    agreeing-in v low h = subst₂ (λ x y. x ≤ℤ y) old new less
      where
        L : Column C → ℕ
        L = level_of t level

        E : R → Column C → ℕ
        E = entry_of e entry

        K : List (Column C)
        K = map kept J

        below_k : AllBelow L E rs (fresh ∷ K)
        below_k i (mem-head d) = subst (Below L E rs) (sym d) (low, h)
        below_k i (mem-tail m) = let (j, n, d) = mem-of_map kept J m in subst (Below L E rs) d (v j n)

        W : List (Column C) → ℤ
        W = word_of L E rs

        less : agreeing L E rs K ≤ℤ agreeing L E rs (fresh ∷ K)
        less = subst₂ (λ x y. x ≤ℤ y) (+ℤ_idl (agreeing L E rs K))
            (ap (λ z. sum (subsets K) (λ I. W (fresh ∷ I)) +ℤ z) (sym (agreeing-parts L E rs K))
            ∙ sym (sum-parts fresh K W) ∙ agreeing-parts L E rs (fresh ∷ K))
            (≤-+ (sum_nonneg (subsets K) (λ I. W (fresh ∷ I)) (λ I m. word_of-nonneg L E rs (fresh ∷ I)
            (λ i n. below_k i (part-mem (keep (subsets-part K I m)) i n)))) (≤ℤ_refl (agreeing L E rs K)))

        old : agreeing L E rs K ≡ agreeing level entry rs J
        old = sum-cong rs (λ f. sum-cong rs (λ g. prod-map kept J (met L E rs f g)))

        new : agreeing L E rs (fresh ∷ K) ≡ pos t *ℤ agreeing_in
        new =
            let M : R → R → ℤ = λ f g. agree (e f) (e g) *ℤ prod J (met level entry rs f g) in
            sum-cong rs (λ f. sum-cong rs (λ g.
            ap (λ z. pos t *ℤ agree (e f) (e g) *ℤ z) (prod-map kept J (met L E rs f g))
            ∙ *-assoc (pos t) (agree (e f) (e g)) (prod J (met level entry rs f g)))
            ∙ sum-* rs (pos t) (M f)) ∙ sum-* rs (pos t) (λ f. sum rs (M f))

module _ {R C : Type 0} (level : C → ℕ) (entry : R → C → ℕ) (rs : List R) where
  agreeing-cons : (a : C) (J : List C) → agreeing level entry rs (a ∷ J) ≡ pos (level a) *ℤ agreeing_in level entry rs (level a) (λ f. entry f a) J
  unfolding agreeing
  agreeing-cons a J =
      let M : R → R → ℤ = λ f g. agree (entry f a) (entry g a) *ℤ prod J (met level entry rs f g) in
      sum-cong rs (λ f. sum-cong rs (λ g. *-assoc (pos (level a)) (agree (entry f a) (entry g a)) (prod J (met level entry rs f g)))
      ∙ sum-* rs (pos (level a)) (M f)) ∙ sum-* rs (pos (level a)) (λ f. sum rs (M f))

  -- runs in different cells
  pub cells-apart : (J : List C) (f g : R) → together entry J f g ≡ false → prod J (met level entry rs f g) ≡ pos 0
  cells-apart J f g e =
      let (i, m, d) = some-fails (λ i. eqb (entry f i) (entry g i)) J e in
      prod-0 J (met level entry rs f g) i m
      (ap (λ z. pos (level i) *ℤ z) (agree-not {a = entry f i} {b = entry g i} (eqb-false (entry f i) (entry g i) d)) ∙ *ℤ-zero (pos (level i)))

-- from m + b = (t + 1) x and b ≤ t x
settled : (t : ℕ) (m b x n : ℤ) → m +ℤ b ≡ pos (suc t) *ℤ x → b ≤ℤ (pos t *ℤ x) → n ≤ℤ b → n ≤ℤ (pos t *ℤ m)
settled t m b x n e h k = ≤_trans k (subst₂ (λ p q. p ≤ℤ q)
    (ap (λ z. z +ℤ neg_ℤ (pos t *ℤ b)) (suc_ℤ-*ℤ (pos t) b) ∙ drop-first (pos t *ℤ b) b)
    (ap (λ z. z +ℤ neg_ℤ (pos t *ℤ b)) (*-swap (pos (suc t)) (pos t) x ∙ ap (λ z. pos t *ℤ z) (sym e)) ∙ drop-last (pos t) m b)
    (≤-+ (*-mono (nonneg (suc t)) h) (≤ℤ_refl (neg_ℤ (pos t *ℤ b)))))
  where
    drop-first : (p b : ℤ) → (p +ℤ b) +ℤ neg_ℤ p ≡ b
    drop-first p b = simp ring

    drop-last : (t m b : ℤ) → t *ℤ (m +ℤ b) +ℤ neg_ℤ (t *ℤ b) ≡ t *ℤ m
    drop-last t m b = simp ring

-- ---- a cell that lacks a level

module _ {R C : Type 0} (level : C → ℕ) (entry : R → C → ℕ) (rs : List R) (a : C) (J : List C) where
  -- whether no run in cell P has level x
  lacks : List ℕ → ℕ → Bool
  lacks P x = eqb (tally entry rs (a ∷ J) (x ∷ P)) 0

  -- the lowest level that is lacking, and s where none is
  missing : List ℕ → ℕ
  missing P = first (lacks P) 0 (level a)

  -- every level of column a occurs in cell P
  abbrev pub Full : List ℕ → Type 0
  Full P = (x : ℕ) → x < level a → (g : R) × Memᴰ g rs × (cell entry J g ≡ P) × (entry g a ≡ x)

  own-level : (f : R) → Memᴰ f rs → missing (cell entry J f) < level a → ¬ (entry f a ≡ missing (cell entry J f))
  unfolding missing lacks
  own-level f m h e =
      let P = cell entry J f in
      let none : tally entry rs (a ∷ J) (missing P ∷ P) ≡ 0 = eqb→eq _ 0 ((first-is (lacks P) 0 (level a)).passes (omega arith)) in
      let some : 0 < tally entry rs (a ∷ J) (entry f a ∷ P)
      = counted (λ g. shows entry g (a ∷ J) (entry f a ∷ P)) f rs m (shows-cell entry (a ∷ J) f f ∙ cell_agree entry (a ∷ J) f f refl) in
      let same : tally entry rs (a ∷ J) (entry f a ∷ P) ≡ tally entry rs (a ∷ J) (missing P ∷ P) = ap (λ x. tally entry rs (a ∷ J) (x ∷ P)) e in
      omega arith

  full-cell : (f : R) → ¬ (missing (cell entry J f) < level a) → Full (cell entry J f)
  unfolding missing lacks
  full-cell f h x l =
      let P = cell entry J f in
      let F = first-is (lacks P) 0 (level a) in
      let some : 0 < tally entry rs (a ∷ J) (x ∷ P) = above (tally entry rs (a ∷ J) (x ∷ P)) (F.none_before x zero-le (omega arith)) in
      let (g, m, e) = found (λ g. shows entry g (a ∷ J) (x ∷ P)) rs some in
      let (p, q) = both (eqb (entry g a) x) (shows entry g J P) (true-is _ e) in
      (g, m, agree-cell entry J g f (sym (shows-cell entry J g f) ∙ is_true _ q), eqb→eq (entry g a) x p)
    where
      above : (n : ℕ) → ¬ (T (eqb n 0)) → 0 < n
      above zero k = absurd (k tt)
      above (suc n) k = omega arith

  abbrev mixed : ℤ
  mixed = mixed_words level entry rs a J

  abbrev figure : Fraction
  figure = words_figure level entry rs a J

  module _ (v : AllBelow level entry rs (a ∷ J)) where
    -- where every cell lacks a level
    lacking : 2 ≤ level a → ((f : R) → Memᴰ f rs → missing (cell entry J f) < level a) →
        (pos (length rs) *ℤ pos (length rs)) ≤ℤ (pos (level a - 1) *ℤ mixed)
    unfolding mixed_words
    lacking two h = settled (level a - 1) mixed B X (pos (length rs) *ℤ pos (length rs)) sums least below-n
      where
        S : ℕ
        S = level a

        B : ℤ
        B = agreeing level entry rs J

        X : ℤ
        X = agreeing_in level entry rs S (λ f. entry f a) J

        e : R → ℕ
        e f = squeeze (missing (cell entry J f)) (entry f a)

        W : List C → ℤ
        W = word_of level entry rs

        later_below : AllBelow level entry rs J
        later_below i m = v i (mem-tail m)

        sums : mixed +ℤ B ≡ pos (suc (S - 1)) *ℤ X
        sums =
            ap (λ z. mixed +ℤ z) (sym (agreeing-parts level entry rs J)) ∙ sym (sum-parts a J W) ∙ agreeing-parts level entry rs (a ∷ J)
            ∙ agreeing-cons level entry rs a J ∙ ap (λ k. pos k *ℤ X) (let q : S ≡ suc (S - 1) = omega arith in q)

        same : (f g : R) → Memᴰ f rs → Memᴰ g rs →
            agree (e f) (e g) *ℤ prod J (met level entry rs f g) ≡ agree (entry f a) (entry g a) *ℤ prod J (met level entry rs f g)
        same f g m n = go (together entry J f g) refl
          where
            go : (b : Bool) → together entry J f g ≡ b →
                agree (e f) (e g) *ℤ prod J (met level entry rs f g) ≡ agree (entry f a) (entry g a) *ℤ prod J (met level entry rs f g)
            go true q =
                let c : missing (cell entry J g) ≡ missing (cell entry J f) = ap missing (sym (agree-cell entry J f g q)) in
                ap (λ z. z *ℤ prod J (met level entry rs f g))
                (ap (λ y. agree (e f) (squeeze y (entry g a))) c
                ∙ squeeze-agree (missing (cell entry J f)) (entry f a) (entry g a) (own-level f m (h f m))
                (λ d. own-level g n (h g n) (d ∙ sym c)))
            go false q = rw (cells-apart level entry rs J f g q) (*ℤ-zero (agree (e f) (e g)) ∙ sym (*ℤ-zero (agree (entry f a) (entry g a))))

        least : B ≤ℤ (pos (S - 1) *ℤ X)
        least = subst (λ z. B ≤ℤ (pos (S - 1) *ℤ z)) (sum-cong-in rs (λ f m. sum-cong-in rs (λ g n. same f g m n)))
            (agreeing-in level entry rs (S - 1) e J later_below (omega arith)
            (λ f m. squeeze-below (missing (cell entry J f)) (entry f a) S (own-level f m (h f m)) ((v a (mem-head refl)).1 f m) (h f m)))

        below-n : (pos (length rs) *ℤ pos (length rs)) ≤ℤ B
        below-n = subst₂ (λ x y. x ≤ℤ y) (word_of-nil level entry rs) (agreeing-parts level entry rs J)
            (term-le (subsets J) W (λ K m. word_of-nonneg level entry rs K (λ i n. later_below i (part-mem (subsets-part J K m) i n))) []
            (part-subsets (part-nil J)))

    pub mixed-nonneg : pos 0 ≤ℤ mixed
    unfolding mixed_words
    mixed-nonneg =
        sum_nonneg (subsets J) (λ K. word_of level entry rs (a ∷ K))
        (λ K m. word_of-nonneg level entry rs (a ∷ K) (λ i n. v i (part-mem (keep (subsets-part J K m)) i n)))

    -- the figure's numerator below its denominator: (s - 1) times the words is below n²
    below-pairs : figure.num < figure.den → (pos (level a - 1) *ℤ mixed) <ℤ (pos (length rs) *ℤ pos (length rs))
    unfolding words_figure
    below-pairs h =
        let (n, e) = is_pos mixed-nonneg in
        let size : nat_abs mixed ≡ n = ap nat_abs (sym e) in
        subst (λ z. (pos (level a - 1) *ℤ z) <ℤ (pos (length rs) *ℤ pos (length rs))) e
        (lt_z_yes (lt→ltb ((level a - 1) * n) (length rs * length rs)
        (subst (λ k. (level a - 1) * k < length rs * length rs) size (below_one ((level a - 1) * nat_abs mixed) (length rs * length rs) h))))

    -- where it is, one cell has every level
    pub words-full : figure.num < figure.den → (f : R) × Memᴰ f rs × Full (cell entry J f)
    words-full h = go (all rs (λ f. ltb (missing (cell entry J f)) (level a))) refl
      where
        small : (pos (level a - 1) *ℤ mixed) <ℤ (pos (length rs) *ℤ pos (length rs))
        small = below-pairs h

        empty : (xs : List R) → (length xs ≡ 0) ⊎ ((f : R) × Memᴰ f xs)
        empty [] = inl refl
        empty (f ∷ fs) = inr (f, mem-head refl)

        none : ((f : R) → Memᴰ f rs → missing (cell entry J f) < level a) → (length rs ≡ 0) ⊎ ((f : R) × Memᴰ f rs) → ⊥
        none h (inl e) =
            clash_ℤ small (subst (λ n. (pos n *ℤ pos n) ≤ℤ (pos (level a - 1) *ℤ mixed)) (sym e) (0≤-* (nonneg (level a - 1)) mixed-nonneg))
        none h (inr (f, m)) =
            clash_ℤ small (lacking (let d = own-level f m (h f m) in let b = (v a (mem-head refl)).1 f m in let c = h f m in omega arith) h)

        go : (b : Bool) → all rs (λ f. ltb (missing (cell entry J f)) (level a)) ≡ b → (f : R) × Memᴰ f rs × Full (cell entry J f)
        go true e =
            absurd (none (λ f m. ltb→lt (missing (cell entry J f)) (level a)
            (all-mem (λ f. ltb (missing (cell entry J f)) (level a)) rs (true-is _ e) f m)) (empty rs))
        go false e =
            let (f, m, d) = some-fails (λ f. ltb (missing (cell entry J f)) (level a)) rs e in
            (f, m, full-cell f (λ h. let k = nltb→le (missing (cell entry J f)) (level a) (rw d tt) in omega arith))

    -- and so the runs tell, and every level occurs
    pub words-tell : figure.num < figure.den → Tells entry rs a J
    words-tell h =
        let (f, m, full) = words-full h in
        tells-full entry rs a J (cell entry J f) (λ g n. full (entry g a) ((v a (mem-head refl)).1 g n))

    pub words-occur : figure.num < figure.den → (x : ℕ) → x < level a → (g : R) × Memᴰ g rs × (entry g a ≡ x)
    words-occur h x l = let (f, m, full) = words-full h in let (g, n, c, e) = full x l in (g, n, e)
