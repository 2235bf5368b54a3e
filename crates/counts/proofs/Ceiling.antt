-- A set of columns whose proper parts all have word 0: its word is at most n²(s - 1), for each level s in it.
use Rattle.exact.proofs.Ground.{true, false, Bool, cond, List, [], ◌∷◌, ◌++◌, ◌≡◌, ◌∙◌, sym, ap, subst, ℕ, ◌<◌, arith, eqb, pos, ℤ, ◌*ℤ◌, ◌+ℤ◌, ◌-ℤ◌}
use Rattle.exact.proofs.Ground.{neg_ℤ, length, length-append, ◌≤ℤ◌}
use mathlib.Core.Path.{subst₂}
use lib.IntN.{+ℤ-neg_ℤ_cancel, -ℤ-+ℤ_cancel}
use lib.Signed.{≤ℤ_refl}
use Rattle.exact.specs.Lists.{sum, prod}
use Rattle.exact.proofs.Ring.{ring, *-one}
use Rattle.exact.proofs.Order.{≤-+, nonneg, 0≤-*, *-mono}
use Rattle.exact.proofs.Sums.{sum-cong, prod-cong, sum-*, sum-const, sum-swap, prod_at}
use Rattle.sets.specs.Sets.{subsets}
use Rattle.sets.proofs.Choose.{sum-subsets}
use Rattle.sets.proofs.Parts.{Part, sum-parts, parts-top, parts-bottom, part_length, part-wider, part-insert}
use Rattle.words.specs.Words.{score, score_at, word_of}
use Rattle.words.proofs.Squares.{agree, score-agree}

agree-nonneg : (a b : ℕ) → pos 0 ≤ℤ agree a b
unfolding agree
agree-nonneg a b = by (eqb a b)
  where
    by : (c : Bool) → pos 0 ≤ℤ cond c (pos 1) (pos 0)
    by true = nonneg 1
    by false = nonneg 0

agree-le-one : (a b : ℕ) → agree a b ≤ℤ pos 1
unfolding agree
agree-le-one a b = by (eqb a b)
  where
    by : (c : Bool) → cond c (pos 1) (pos 0) ≤ℤ pos 1
    by true = ≤ℤ_refl (pos 1)
    by false = nonneg 1

module _ {A : Type 0} where
  sum_mono : (xs : List A) (f g : A → ℤ) → ((x : A) → f x ≤ℤ g x) → sum xs f ≤ℤ sum xs g
  sum_mono [] f g h = ≤ℤ_refl (pos 0)
  sum_mono (x ∷ xs) f g h = ≤-+ (h x) (sum_mono xs f g h)

  prod-nonneg : (xs : List A) (f : A → ℤ) → ((x : A) → pos 0 ≤ℤ f x) → pos 0 ≤ℤ prod xs f
  prod-nonneg [] f h = nonneg 1
  prod-nonneg (x ∷ xs) f h = 0≤-* (h x) (prod-nonneg xs f h)

pub score-plus : (s a b : ℕ) → score s a b +ℤ pos 1 ≡ pos s *ℤ agree a b
score-plus s a b = rw (score-agree s a b) (-ℤ-+ℤ_cancel (pos s *ℤ agree a b) (pos 1))

lower : (S d p : ℤ) → pos 0 ≤ℤ S → d ≤ℤ pos 1 → pos 0 ≤ℤ p → ((S *ℤ d) *ℤ p) ≤ℤ (S *ℤ p)
lower S d p hs hd hp = subst₂ (λ x y. x ≤ℤ y) (turn S d p) (*-one (S *ℤ p)) (*-mono (0≤-* hs hp) hd)
  where
    turn : (S d p : ℤ) → (S *ℤ p) *ℤ d ≡ (S *ℤ d) *ℤ p
    turn S d p = simp ring

-- from w + n ≤ s n
less : (w n s : ℤ) → (w +ℤ n) ≤ℤ (s *ℤ n) → w ≤ℤ (n *ℤ (s -ℤ pos 1))
less w n s h = subst₂ (λ x y. x ≤ℤ y) (+ℤ-neg_ℤ_cancel w n) (turn s n) (≤-+ h (≤ℤ_refl (neg_ℤ n)))
  where
    turn : (s n : ℤ) → s *ℤ n -ℤ n ≡ n *ℤ (s -ℤ pos 1)
    turn s n = simp ring

module _ {R C : Type 0} (level : C → ℕ) (entry : R → C → ℕ) (runs : List R) where
  -- the level of column i where the runs agree in it, and 0 elsewhere
  abbrev pub both : R → R → C → ℤ
  both f g i = pos (level i) *ℤ agree (entry f i) (entry g i)

  -- the pairs that agree in all columns of K, each column multiplying by its level
  unfoldable pub agreeing : List C → ℤ
  agreeing K = sum runs (λ f. sum runs (λ g. prod K (both f g)))

  -- it is the words of all parts together
  pub agreeing-parts : (K : List C) → sum (subsets K) (λ J. word_of level entry runs J) ≡ agreeing K
  unfolding agreeing word_of
  agreeing-parts K =
      sum-swap (subsets K) runs (λ J f. sum runs (λ g. prod J (score_at level entry f g)))
      ∙ sum-cong runs (λ f. sum-swap (subsets K) runs (λ J g. prod J (score_at level entry f g))
      ∙ sum-cong runs (λ g. sum-subsets K (score_at level entry f g) ∙ prod-cong K (λ i. score-plus (level i) (entry f i) (entry g i))))

  agreeing-le : (i : C) (K : List C) → agreeing (i ∷ K) ≤ℤ (pos (level i) *ℤ agreeing K)
  unfolding agreeing
  agreeing-le i K =
      let P : R → R → ℤ = λ f g. prod K (both f g) in
      let S = pos (level i) in
      let point : (f g : R) → (both f g i *ℤ P f g) ≤ℤ (S *ℤ P f g)
      = λ f g. lower S (agree (entry f i) (entry g i)) (P f g) (nonneg (level i)) (agree-le-one (entry f i) (entry g i))
      (prod-nonneg K (both f g) (λ i. 0≤-* (nonneg (level i)) (agree-nonneg (entry f i) (entry g i)))) in
      subst (λ z. sum runs (λ f. sum runs (λ g. both f g i *ℤ P f g)) ≤ℤ z)
      (sum-cong runs (λ f. sum-* runs S (P f)) ∙ sum-* runs S (λ f. sum runs (P f)))
      (sum_mono runs (λ f. sum runs (λ g. both f g i *ℤ P f g)) (λ f. sum runs (λ g. S *ℤ P f g))
      (λ f. sum_mono runs (λ g. both f g i *ℤ P f g) (λ g. S *ℤ P f g) (point f)))

  pub word_of-nil : word_of level entry runs [] ≡ pos (length runs) *ℤ pos (length runs)
  unfolding word_of
  word_of-nil = sum-cong runs (λ f. sum-const runs (pos 1) ∙ *-one (pos (length runs))) ∙ sum-const runs (pos (length runs))

  -- a column may be moved to the front
  word_of-at : (ps : List C) (i : C) (qs : List C) → word_of level entry runs (ps ++ i ∷ qs) ≡ word_of level entry runs (i ∷ (ps ++ qs))
  unfolding word_of
  word_of-at ps i qs = sum-cong runs (λ f. sum-cong runs (λ g. prod_at ps i qs (score_at level entry f g)))

  -- of columns that have no other word: what the first has with the others, and the others alone
  module _ (i : C) (K : List C) (h : (J : List C) → Part J K → length J < length K → word_of level entry runs (i ∷ J) ≡ pos 0)
      (k : (J : List C) → Part J K → 0 < length J → word_of level entry runs J ≡ pos 0) where
    abbrev n² : ℤ
    n² = pos (length runs) *ℤ pos (length runs)

    pub agreeing-first : agreeing (i ∷ K) ≡ word_of level entry runs (i ∷ K) +ℤ n²
    agreeing-first =
        let W = word_of level entry runs in
        sym (agreeing-parts (i ∷ K)) ∙ sum-parts i K W ∙ rw (parts-top K (λ J. W (i ∷ J)) h, parts-bottom K W k, word_of-nil)

    first-ceiling : word_of level entry runs (i ∷ K) ≤ℤ (n² *ℤ (pos (level i) -ℤ pos 1))
    first-ceiling =
        let W = word_of level entry runs in
        let low : agreeing K ≡ n² = sym (agreeing-parts K) ∙ parts-bottom K W k ∙ word_of-nil in
        less (W (i ∷ K)) n² (pos (level i))
        (subst (λ z. z ≤ℤ (pos (level i) *ℤ n²)) agreeing-first (subst (λ z. agreeing (i ∷ K) ≤ℤ (pos (level i) *ℤ z)) low (agreeing-le i K)))

  pub ceiling : (ps : List C) (i : C) (qs : List C) →
      ((J : List C) → Part J (ps ++ i ∷ qs) → 0 < length J → length J < length (ps ++ i ∷ qs) → word_of level entry runs J ≡ pos 0) →
      word_of level entry runs (ps ++ i ∷ qs) ≤ℤ (pos (length runs) *ℤ pos (length runs) *ℤ (pos (level i) -ℤ pos 1))
  ceiling ps i qs h = rw (word_of-at ps i qs) (first-ceiling i (ps ++ qs)
      (λ J p l. let (J₁, J₂, e, q) = part-insert ps i qs p in
      ap (λ z. word_of level entry runs (i ∷ z)) e ∙ sym (word_of-at J₁ i J₂)
      ∙ h (J₁ ++ i ∷ J₂) q (simp length-append (omega arith))
      (simp length-append (omega (arith, simp length-append at (ap length e), simp length-append at l))))
      (λ J p l. h J (part-wider ps i qs p) l (simp length-append (omega (arith, simp length-append at (part_length p))))))
