-- Every t columns are even exactly where the words of length 1 to t are 0; so the resolution is the strength and one.
use Rattle.exact.proofs.Ground.{List, [], ◌∷◌, Memᴰ, mem-head, mem-tail, ◌≡◌, ◌∙◌, sym, ap, refl, subst, ℕ, ◌≤◌, ◌<◌, ◌-◌, ◌*◌, suc}
use Rattle.exact.proofs.Ground.{dec_lt, mul-pos, arith, T, pos, ℤ, nat_abs, ◌*ℤ◌, length}
use mathlib.Core.Logic.{◌↔◌}
use native.Mathlib.Nat.{zero-lt-suc}
use Rattle.exact.specs.Lists.{sum, prod}
use Rattle.exact.proofs.Ring.{ring, *-one, one-*}
use Rattle.exact.proofs.Tests.{all-mem, mem-all}
use Rattle.exact.proofs.Sums.{sum-cong, sum-cong-in, sum-*, sum-0}
use Rattle.sets.specs.Sets.{choose}
use Rattle.sets.proofs.Parts.{Part, part-trans, part-mem, part_length, choose-part, part-choose, part-extend}
use Rattle.words.specs.Words.{word_of, word}
use Rattle.words.proofs.Squares.{agree}
use Rattle.words.proofs.Positive.{word_of-weighed, word_of-nonneg}
use Rattle.counts.specs.Counts.{combinations, tally, even, balanced}
use Rattle.counts.proofs.Numbered.{mem-combinations}
use Rattle.counts.specs.Strength.{Even, IsStrength}
use Rattle.counts.proofs.Balance.{even→Even, Even→even}
use Rattle.counts.proofs.Shown.{combinations-mem, has, has-nil, has-cons, tally-sum}
use Rattle.words.specs.Entries.{AllBelow}
use Rattle.counts.proofs.Even.{Vanish, Vanish⁺, Scaled, sum-zero, cancel-eq, zero→vanish, vanish→zero, vanish→scaled, scaled→vanish}

out : (w S d h : ℤ) → (w *ℤ (S *ℤ d)) *ℤ h ≡ S *ℤ (w *ℤ (d *ℤ h))
out w S d h = simp ring

into : (S p x : ℤ) → (S *ℤ p) *ℤ x ≡ p *ℤ (S *ℤ x)
into S p x = simp ring

module _ {R C : Type 0} (level : C → ℕ) (entry : R → C → ℕ) (runs : List R) where
  -- the product of the levels
  abbrev pub levels : List C → ℤ
  levels K = prod K (λ i. pos (level i))

  -- one column more: its level comes out as a factor
  sum-has : (i : C) (K : List C) (w : R → ℤ) (a : ℕ) (P : List ℕ) →
      sum runs (λ f. (w f *ℤ (pos (level i) *ℤ agree (entry f i) a)) *ℤ has entry f K P) ≡
      pos (level i) *ℤ sum runs (λ f. w f *ℤ has entry f (i ∷ K) (a ∷ P))
  sum-has i K w a P =
      sum-cong runs (λ f. out (w f) (pos (level i)) (agree (entry f i) a) (has entry f K P)
      ∙ ap (λ z. pos (level i) *ℤ (w f *ℤ z)) (sym (has-cons entry f i K a P)))
      ∙ sum-* runs (pos (level i)) (λ f. w f *ℤ has entry f (i ∷ K) (a ∷ P))

  -- ---- in terms of counts

  pub scaled→counts : (K : List C) (w : R → ℤ) (t : ℤ) → Scaled level entry runs K w t → (P : List ℕ) → Memᴰ P (combinations level K) →
      levels K *ℤ sum runs (λ f. w f *ℤ has entry f K P) ≡ t
  scaled→counts [] w t s P m = rw (one-* (sum runs (λ f. w f *ℤ has entry f [] P))) (simp (has-nil, *-one) s)
  scaled→counts (i ∷ K) w t s P m =
      let (a, Q, l, q, e) = mem-combinations level i K P m in
      subst (λ P. levels (i ∷ K) *ℤ sum runs (λ f. w f *ℤ has entry f (i ∷ K) P) ≡ t) e
      (into (pos (level i)) (levels K) (sum runs (λ f. w f *ℤ has entry f (i ∷ K) (a ∷ Q)))
      ∙ ap (λ z. levels K *ℤ z) (sym (sum-has i K w a Q))
      ∙ scaled→counts K (λ f. w f *ℤ (pos (level i) *ℤ agree (entry f i) a)) t (s a l) Q q)

  counts→scaled : (K : List C) (w : R → ℤ) (c : ℤ) →
      ((P : List ℕ) → Memᴰ P (combinations level K) → sum runs (λ f. w f *ℤ has entry f K P) ≡ c) → Scaled level entry runs K w (levels K *ℤ c)
  counts→scaled [] w c h = rw (one-* c) (simp (has-nil, *-one) at (h [] (mem-head refl)))
  counts→scaled (i ∷ K) w c h = λ a l.
      rw (into (pos (level i)) (levels K) c)
      (counts→scaled K (λ f. w f *ℤ (pos (level i) *ℤ agree (entry f i) a)) (pos (level i) *ℤ c)
      (λ P m. sum-has i K w a P ∙ ap (λ z. pos (level i) *ℤ z) (h (a ∷ P) (combinations-mem level i K a P l m))))

  pub levels-pos : (K : List C) → AllBelow level entry runs K → (p : ℕ) × (0 < p) × (pos p ≡ levels K)
  levels-pos [] v = (1, zero-lt-suc 0, refl)
  levels-pos (i ∷ K) v = let (p, h, e) = levels-pos K (λ k n. v k (mem-tail n)) in
      (level i * p, mul-pos (v i (mem-head refl)).0 h, ap (λ z. pos (level i) *ℤ z) e)

  combinations-some : (K : List C) → AllBelow level entry runs K → (P : List ℕ) × Memᴰ P (combinations level K)
  combinations-some [] v = ([], mem-head refl)
  combinations-some (i ∷ K) v = let (P, m) = combinations-some K (λ k n. v k (mem-tail n)) in
      (0 ∷ P, combinations-mem level i K 0 P (v i (mem-head refl)).0 m)

  scaled→even : (K : List C) (t : ℤ) → AllBelow level entry runs K → Scaled level entry runs K (λ f. pos 1) t → Even level entry runs K
  scaled→even K t v s P Q m l = let (p, h, e) = levels-pos K v in
      let claim : (P : List ℕ) → Memᴰ P (combinations level K) → pos p *ℤ pos (tally entry runs K P) ≡ t
      = λ P m. ap (λ z. z *ℤ pos (tally entry runs K P)) e ∙ ap (λ z. levels K *ℤ z) (sym (tally-sum entry runs K P))
      ∙ scaled→counts K (λ f. pos 1) t s P m in
      ap nat_abs (cancel-eq p (pos (tally entry runs K P)) (pos (tally entry runs K Q)) h (claim P m ∙ sym (claim Q l)))

  even→scaled : (K : List C) → AllBelow level entry runs K → Even level entry runs K → (t : ℤ) × Scaled level entry runs K (λ f. pos 1) t
  even→scaled K v h = let (Q, l) = combinations-some K v in
      let c = pos (tally entry runs K Q) in
      (levels K *ℤ c, counts→scaled K (λ f. pos 1) c (λ P m. tally-sum entry runs K P ∙ ap pos (h P Q m l)))

  -- ---- the words of a set's parts, and the set

  pub parts→even : (K : List C) → AllBelow level entry runs K →
      ((I : List C) → Part I K → 0 < length I → word_of level entry runs I ≡ pos 0) → Even level entry runs K
  parts→even K v h = scaled→even K (sum runs (λ f. pos 1)) v (vanish→scaled level entry runs K (λ f. pos 1) (λ I p. go I p))
    where
      go : (I : List C) → Part I K → Vanish⁺ level entry runs I (λ f. pos 1)
      go [] p = tt
      go (i ∷ I) p =
          zero→vanish level entry runs (i ∷ I) (λ f. pos 1) (λ k n. v k (part-mem p k n))
          (sym (word_of-weighed level entry runs (i ∷ I)) ∙ h (i ∷ I) p (omega arith))

  pub even→part : {I K : List C} → Part I K → AllBelow level entry runs K → Even level entry runs K → 0 < length I →
      word_of level entry runs I ≡ pos 0
  even→part {I} {K} p v h l = let (t, s) = even→scaled K v h in
      word_of-weighed level entry runs I
      ∙ vanish→zero level entry runs I (λ f. pos 1) (λ k n. v k (part-mem p k n)) (go I l (scaled→vanish level entry runs p (λ f. pos 1) t v s))
    where
      go : (I : List C) → 0 < length I → Vanish⁺ level entry runs I (λ f. pos 1) → Vanish level entry runs I (λ f. pos 1)
      go [] l x = absurd (omega arith)
      go (i ∷ I) l x = x

module _ {R C : Type 0} (level : C → ℕ) (entry : R → C → ℕ) (runs : List R) (cols : List C) (v : AllBelow level entry runs cols) where
  -- the words of length 1 to t are 0
  abbrev pub NoWord : ℕ → Type 0
  NoWord t = (j : ℕ) → 0 < j → j ≤ t → word level entry runs cols j ≡ pos 0

  -- every t columns are even
  abbrev pub AllEven : ℕ → Type 0
  AllEven t = (K : List C) → Memᴰ K (choose t cols) → Even level entry runs K

  pub word-zero : (j : ℕ) → word level entry runs cols j ≡ pos 0 → (I : List C) → Memᴰ I (choose j cols) → word_of level entry runs I ≡ pos 0
  unfolding word
  word-zero j e I m =
      sum-zero (choose j cols) (λ I. word_of level entry runs I)
      (λ J n. word_of-nonneg level entry runs J (λ i k. v i (part-mem (choose-part j cols J n).0 i k))) e I m

  wordless→even : (t : ℕ) → NoWord t → AllEven t
  wordless→even t h K m = let (p, e) = choose-part t cols K m in
      parts→even level entry runs K (λ k n. v k (part-mem p k n))
      (λ I q l. word-zero (length I) (h (length I) l (let d = part_length q in omega arith)) I (part-choose (part-trans q p)))

  even→wordless : (t : ℕ) → t ≤ length cols → AllEven t → NoWord t
  unfolding word
  even→wordless t b h j l k = sum-cong-in (choose j cols) (λ I m.
      let (p, e) = choose-part j cols I m in
      let (J, a, q, d) = part-extend p t (omega arith) b in
      even→part level entry runs a (λ i n. v i (part-mem q i n)) (h J (subst (λ t. Memᴰ J (choose t cols)) d (part-choose q))) (omega arith))
      ∙ sum-0 (choose j cols)

  -- the first t words vanish exactly where every t columns show all combinations equally often
  pub wordless-balanced : (t : ℕ) → t ≤ length cols → (NoWord t ↔ T (balanced level entry runs cols t))
  unfolding balanced
  wordless-balanced t b = (
    λ h. mem-all (even level entry runs) (choose t cols) (λ K m. Even→even level entry runs K (wordless→even t h K m)),
    λ h. even→wordless t b (λ K m. even→Even level entry runs K (all-mem (even level entry runs) (choose t cols) h K m)),
  )

  -- the least length from 1 on of a word that is not 0, and m + 1 where there is none, is the strength and one
  pub resolution-strength : (r t : ℕ) → 0 < r → r ≤ suc (length cols) → (r ≤ length cols → ¬ (word level entry runs cols r ≡ pos 0)) →
      NoWord (r - 1) → IsStrength level entry runs cols t → r ≡ suc t
  resolution-strength r t low fits there least S = go (dec_lt t r)
    where
      go : Dec (t < r) → r ≡ suc t
      go (yes l) = omega (arith, S.most (r - 1) (omega arith) (wordless→even (r - 1) least))
      go (no f) = absurd (there (omega (arith, S.fits)) (even→wordless t S.fits S.all-even r low (omega arith)))
