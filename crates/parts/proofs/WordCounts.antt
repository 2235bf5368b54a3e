-- W(I) from the counts of combinations: the alternating sum, over the parts J of I, of the levels' product times the sum of squared counts.
use Rattle.exact.proofs.Ground.{List, [], ◌∷◌, map, mem-head, mem-tail, ◌≡◌, ◌∙◌, sym, ap, refl, ℕ, ◌≤◌, ◌-◌, suc, zero-le, arith, pos, ℤ}
use Rattle.exact.proofs.Ground.{◌*ℤ◌, ◌+ℤ◌, ◌-ℤ◌, negsuc, neg_ℤ, +ℤ_idr, length}
use native.Mathlib.Nat.{suc-sub-suc}
use Rattle.exact.specs.Lists.{from, each, sum, prod}
use Rattle.exact.proofs.Ring.{ring, *-one, one-*, *-assoc, *-swap}
use Rattle.exact.proofs.Sums.{sum-cong, prod-cong, prod-*, sum-cong-in, sum-*, sum-++, sum-map, sum-swap}
use Rattle.sets.specs.Sets.{subsets}
use Rattle.sets.proofs.Parts.{sum-parts, part_length, part-mem, subsets-part}
use Rattle.words.specs.Words.{word_of}
use Rattle.words.proofs.Squares.{agree, agree-sym, score-agree, pick}
use Rattle.words.proofs.Positive.{pairs, pairs-one, pairs-plain, pairs-split}
use Rattle.counts.specs.Counts.{combinations}
use Rattle.parts.specs.Parts.{sign, squared_counts, from_combinations}
use Rattle.words.specs.Entries.{AllBelow}
use Rattle.counts.proofs.Shown.{has, has-nil, has-cons, tally-sum}
use Rattle.counts.proofs.Ceiling.{both, agreeing}

module _ {A B : Type 0} where
  sum-each : (xs : List A) (g : A → List B) (F : B → ℤ) → sum (each xs g) F ≡ sum xs (λ x. sum (g x) F)
  sum-each [] g F = refl
  sum-each (x ∷ xs) g F = sum-++ (g x) (each xs g) F ∙ ap (λ z. sum (g x) F +ℤ z) (sum-each xs g F)

abbrev square : ℤ → ℤ
square z = z *ℤ z

module _ {R C : Type 0} (level : C → ℕ) (entry : R → C → ℕ) (runs : List R) where
  -- the runs that have the combination P, by weight
  abbrev weight : (R → ℤ) → List C → List ℕ → ℤ
  weight w J P = sum runs (λ f. w f *ℤ has entry f J P)

  -- the pairs that agree in all columns of J, by the combinations
  pairs-agree : (J : List C) (w : R → ℤ) → AllBelow level entry runs J →
      pairs runs w (λ f g. prod J (λ i. agree (entry f i) (entry g i))) ≡ sum (combinations level J) (λ P. square (weight w J P))
  pairs-agree [] w v = pairs-one runs w ∙ simp (has-nil, *-one, +ℤ_idr)
  pairs-agree (i ∷ J) w v =
      let A = from 0 (level i) in
      let rest : R → R → ℤ = λ f g. prod J (λ i. agree (entry f i) (entry g i)) in
      let F : List ℕ → ℤ = λ P. square (weight w (i ∷ J) P) in
      let b = v i (mem-head refl) in
      sym (one-* (pairs runs w (λ f g. prod (i ∷ J) (λ i. agree (entry f i) (entry g i)))))
      ∙ pairs-split runs (pos 1) (λ f g. agree (entry f i) (entry g i)) rest A (λ f a. agree (entry f i) a) w
      (λ f mf g mg. one-* (agree (entry f i) (entry g i)) ∙ agree-sym (entry f i) (entry g i)
      ∙ sym (pick (entry f i) 0 (level i) (λ a. agree (entry g i) a) zero-le (let q = b.1 f mf in omega arith)))
      ∙ sum-cong A (λ a. pairs-agree J (λ f. w f *ℤ agree (entry f i) a) (λ k n. v k (mem-tail n))
      ∙ sum-cong (combinations level J) (λ P. ap square (sum-cong runs (λ f.
      *-assoc (w f) (agree (entry f i) a) (has entry f J P) ∙ ap (λ z. w f *ℤ z) (sym (has-cons entry f i J a P)))))
      ∙ sym (sum-map (λ P. a ∷ P) (combinations level J) F))
      ∙ sym (sum-each A (λ a. map (λ P. a ∷ P) (combinations level J)) F)

  pub agreeing-counts : (J : List C) → AllBelow level entry runs J →
      agreeing level entry runs J ≡ prod J (λ i. pos (level i)) *ℤ squared_counts level entry runs J
  unfolding agreeing squared_counts
  agreeing-counts J v =
      let S = prod J (λ i. pos (level i)) in
      let same : R → R → ℤ = λ f g. prod J (λ i. agree (entry f i) (entry g i)) in
      sum-cong runs (λ f. sum-cong runs (λ g. prod-* J (λ i. pos (level i)) (λ i. agree (entry f i) (entry g i))) ∙ sum-* runs S (same f))
      ∙ sum-* runs S (λ f. sum runs (same f))
      ∙ ap (λ z. S *ℤ z) (sym (pairs-plain runs same) ∙ pairs-agree J (λ f. pos 1) v
      ∙ sum-cong (combinations level J) (λ P. ap square (tally-sum entry runs J P)))

-- ---- the alternating sum

one_more : (n m : ℕ) → m ≤ n → suc n - m ≡ suc (n - m)
one_more n m h = omega arith

flip : (s p : ℤ) → neg_ℤ s *ℤ p ≡ negsuc 0 *ℤ (s *ℤ p)
flip s p = simp ring

pub gather : (y p : ℤ) → y *ℤ p +ℤ negsuc 0 *ℤ p ≡ (y -ℤ pos 1) *ℤ p
gather y p = simp ring

module _ {A : Type 0} where
  alternate : (I : List A) (y : A → ℤ) → sum (subsets I) (λ J. sign (length I - length J) *ℤ prod J y) ≡ prod I (λ i. y i -ℤ pos 1)
  alternate [] y = refl
  alternate (x ∷ I) y =
      let s : List A → ℤ = λ J. sign (length I - length J) in
      sum-parts x I (λ J. sign (suc (length I) - length J) *ℤ prod J y)
      ∙ rw (
        sum-cong (subsets I) {f = λ J. sign (suc (length I) - suc (length J)) *ℤ (y x *ℤ prod J y)} {g = λ J. y x *ℤ (s J *ℤ prod J y)}
            (λ J. ap (λ n. sign n *ℤ (y x *ℤ prod J y)) (suc-sub-suc (length I) (length J)) ∙ *-swap (s J) (y x) (prod J y)),
        sum-cong-in (subsets I) {f = λ J. sign (suc (length I) - length J) *ℤ prod J y} {g = λ J. negsuc 0 *ℤ (s J *ℤ prod J y)}
            (λ J m. let h = part_length (subsets-part I J m) in ap (λ n. sign n *ℤ prod J y) (one_more (length I) (length J) h) ∙ flip (s J) (prod J y)),
        sum-* (subsets I) (y x) (λ J. s J *ℤ prod J y),
        sum-* (subsets I) (negsuc 0) (λ J. s J *ℤ prod J y),
        alternate I y,
      ) (gather (y x) (prod I (λ i. y i -ℤ pos 1)))

module _ {R C : Type 0} (level : C → ℕ) (entry : R → C → ℕ) (runs : List R) where
  pub word-combinations : (I : List C) → AllBelow level entry runs I → word_of level entry runs I ≡ from_combinations level entry runs I
  unfolding word_of agreeing from_combinations
  word-combinations I v =
      let y : R → R → C → ℤ = both level entry runs in
      let s : List C → ℤ = λ J. sign (length I - length J) in
      sum-cong runs (λ f. sum-cong runs (λ g. prod-cong I (λ i. score-agree (level i) (entry f i) (entry g i)) ∙ sym (alternate I (y f g)))
      ∙ sum-swap runs (subsets I) (λ g J. s J *ℤ prod J (y f g)))
      ∙ sum-swap runs (subsets I) (λ f J. sum runs (λ g. s J *ℤ prod J (y f g)))
      ∙ sum-cong-in (subsets I) (λ J m.
      sum-cong runs (λ f. sum-* runs (s J) (λ g. prod J (y f g))) ∙ sum-* runs (s J) (λ f. sum runs (λ g. prod J (y f g)))
      ∙ ap (λ z. s J *ℤ z) (agreeing-counts level entry runs J (λ i n. v i (part-mem (subsets-part I J m) i n))))
