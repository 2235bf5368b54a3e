-- The words by pairs of runs and by rows; what a strike and a reinstatement do to them.
use Rattle.exact.proofs.Ground.{List, [], ◌∷◌, ◌++◌, Memᴰ, ◌≡◌, ◌∙◌, sym, ap, refl, ap₂, ℕ, ◌<◌, eqb, eqb→eq, eqb_refl, pos, ℤ, ◌*ℤ◌, ◌+ℤ◌, ◌-ℤ◌}
use Rattle.exact.proofs.Ground.{negsuc, length}
use Rattle.exact.specs.Lists.{sum, prod}
use Rattle.exact.proofs.Ring.{ring}
use Rattle.exact.proofs.Sums.{sum-cong, sum-cong-in, prod-cong, sum-swap, sum-+, sum-at, sum-0}
use Rattle.exact.proofs.Tests.{is_true, is_false}
pub use Rattle.exact.proofs.Tests.{eqb-sym}
use Rattle.sets.specs.Sets.{choose}
use Rattle.sets.proofs.Choose.{esp, sum-choose, esp-cong-in, esp-above}
use Rattle.pairs.specs.Given.{once}
use Rattle.pairs.specs.Words.{score, score_at, word_of, word, pair_sum, row_sum, diagonal}

-- ---- the score of two entries

pub score-sym : (s a b : ℕ) → score s a b ≡ score s b a
unfolding score
score-sym s a b = rw (eqb-sym a b)

pub score-same : (s a : ℕ) → score s a a ≡ pos s -ℤ pos 1
unfolding score
score-same s a = rw (is_true (eqb a a) (eqb_refl a))

pub score-agrees : (s a b : ℕ) → a ≡ b → score s a b ≡ pos s -ℤ pos 1
score-agrees s a b e = rw e (score-same s b)

pub score-differs : (s a b : ℕ) → ¬ (a ≡ b) → score s a b ≡ negsuc 0
unfolding score
score-differs s a b h = rw (is_false (eqb a b) (λ t. h (eqb→eq a b t)))

-- ---- sums over all ordered pairs of a number that does not depend on the order

module _ {R : Type 0} (k : R → R → ℤ) where
  -- over all ordered pairs, a run with itself included
  abbrev pub total : List R → ℤ
  total runs = sum runs (λ f. sum runs (λ g. k f g))

gather : (d r p : ℤ) → (d +ℤ r) +ℤ (r +ℤ p) ≡ p +ℤ pos 2 *ℤ r +ℤ d
gather d r p = simp ring

back : (d r p : ℤ) → p ≡ (p +ℤ pos 2 *ℤ r +ℤ d) -ℤ pos 2 *ℤ (d +ℤ r) +ℤ d
back d r p = simp ring

double : (d r p q : ℤ) → (pos 2 *ℤ p +ℤ q) +ℤ pos 2 *ℤ r +ℤ d ≡ pos 2 *ℤ (r +ℤ p) +ℤ (d +ℤ q)
double d r p q = simp ring

module _ {R : Type 0} (k : R → R → ℤ) (symm : (f g : R) → k f g ≡ k g f) where
  -- a run more, anywhere in the list
  pub total-with : (ps : List R) (f : R) (qs : List R) →
      total k (ps ++ f ∷ qs) ≡ total k (ps ++ qs) +ℤ pos 2 *ℤ sum (ps ++ qs) (λ g. k f g) +ℤ k f f
  total-with ps f qs =
      let L = ps ++ f ∷ qs in let M = ps ++ qs in
      sum-cong L (λ h. sum-at ps f qs (λ g. k h g) ∙ ap (λ z. z +ℤ sum M (λ g. k h g)) (symm h f))
      ∙ sum-+ L (λ h. k f h) (λ h. sum M (λ g. k h g))
      ∙ rw (sum-at ps f qs (λ g. k f g), sum-at ps f qs (λ h. sum M (λ g. k h g))) (gather (k f f) (sum M (λ g. k f g)) (total k M))

  -- a run less
  pub total-without : (ps : List R) (f : R) (qs : List R) →
      total k (ps ++ qs) ≡ total k (ps ++ f ∷ qs) -ℤ pos 2 *ℤ sum (ps ++ f ∷ qs) (λ g. k f g) +ℤ k f f
  total-without ps f qs =
      rw (total-with ps f qs, sum-at ps f qs (λ g. k f g)) (back (k f f) (sum (ps ++ qs) (λ g. k f g)) (total k (ps ++ qs)))

  -- each pair of different runs once, counted double, and the pairs of a run with itself
  pub total-once : (runs : List R) → total k runs ≡ pos 2 *ℤ once k runs +ℤ sum runs (λ f. k f f)
  total-once [] = refl
  total-once (f ∷ runs) =
      total-with [] f runs
      ∙ rw (total-once runs) (double (k f f) (sum runs (λ g. k f g)) (once k runs) (sum runs (λ f. k f f)))

-- ---- the words, pair by pair

module _ {C : Type 0} (level : C → ℕ) where
  pub diagonal-esp : (cols : List C) (j : ℕ) → diagonal level cols j ≡ esp j cols (λ i. pos (level i) -ℤ pos 1)
  unfolding diagonal
  diagonal-esp cols j = sum-choose j cols (λ i. pos (level i) -ℤ pos 1)

module _ {R C : Type 0} (level : C → ℕ) (entry : R → C → ℕ) where
  pub pair-esp : (cols : List C) (j : ℕ) (f g : R) → pair_sum level entry cols j f g ≡ esp j cols (score_at level entry f g)
  unfolding pair_sum
  pair-esp cols j f g = sum-choose j cols (score_at level entry f g)

  pub pair-sym : (cols : List C) (j : ℕ) (f g : R) → pair_sum level entry cols j f g ≡ pair_sum level entry cols j g f
  unfolding pair_sum
  pair-sym cols j f g = sum-cong (choose j cols) (λ I. prod-cong I (λ i. score-sym (level i) (entry f i) (entry g i)))

  -- a run with itself
  pub pair-self : (cols : List C) (j : ℕ) (f : R) → pair_sum level entry cols j f f ≡ diagonal level cols j
  unfolding pair_sum diagonal
  pair-self cols j f = sum-cong (choose j cols) (λ I. prod-cong I (λ i. score-same (level i) (entry f i)))

  pub row-pairs : (runs : List R) (cols : List C) (j : ℕ) (f : R) →
      row_sum level entry runs cols j f ≡ sum runs (λ g. pair_sum level entry cols j f g)
  unfolding row_sum pair_sum
  row-pairs runs cols j f = sum-swap (choose j cols) runs (λ I g. prod I (score_at level entry f g))

  pub word_rows : (runs : List R) (cols : List C) (j : ℕ) → word level entry runs cols j ≡ sum runs (row_sum level entry runs cols j)
  unfolding word word_of row_sum
  word_rows runs cols j = sum-swap (choose j cols) runs (λ I f. sum runs (λ g. prod I (score_at level entry f g)))

  pub word-pairs : (runs : List R) (cols : List C) (j : ℕ) → word level entry runs cols j ≡ total (pair_sum level entry cols j) runs
  word-pairs runs cols j = word_rows runs cols j ∙ sum-cong runs (row-pairs runs cols j)

  -- ---- a strike and a reinstatement

  -- without run f: the word less twice its row sum, plus E
  pub strike : (ps : List R) (f : R) (qs : List R) (cols : List C) (j : ℕ) →
      word level entry (ps ++ qs) cols j
      ≡ word level entry (ps ++ f ∷ qs) cols j -ℤ pos 2 *ℤ row_sum level entry (ps ++ f ∷ qs) cols j f +ℤ diagonal level cols j
  strike ps f qs cols j =
      rw (word-pairs (ps ++ qs) cols j, word-pairs (ps ++ f ∷ qs) cols j, row-pairs (ps ++ f ∷ qs) cols j f, ← (pair-self cols j f))
      (total-without (pair_sum level entry cols j) (pair-sym cols j) ps f qs)

  -- with run f again: the word plus twice the row sum over the others, plus E
  pub reinstate : (ps : List R) (f : R) (qs : List R) (cols : List C) (j : ℕ) →
      word level entry (ps ++ f ∷ qs) cols j
      ≡ word level entry (ps ++ qs) cols j +ℤ pos 2 *ℤ row_sum level entry (ps ++ qs) cols j f +ℤ diagonal level cols j
  reinstate ps f qs cols j =
      rw (word-pairs (ps ++ qs) cols j, word-pairs (ps ++ f ∷ qs) cols j, row-pairs (ps ++ qs) cols j f, ← (pair-self cols j f))
      (total-with (pair_sum level entry cols j) (pair-sym cols j) ps f qs)

  -- ---- a length above the number of columns has no sets, and no word

  pub pair-above : (cols : List C) (j : ℕ) → length cols < j → (f g : R) → pair_sum level entry cols j f g ≡ pos 0
  pair-above cols j h f g = pair-esp cols j f g ∙ esp-above j cols (score_at level entry f g) h

  pub row-above : (runs : List R) (cols : List C) (j : ℕ) → length cols < j → (f : R) → row_sum level entry runs cols j f ≡ pos 0
  row-above runs cols j h f = row-pairs runs cols j f ∙ sum-cong runs (λ g. pair-above cols j h f g) ∙ sum-0 runs

  pub word-above : (runs : List R) (cols : List C) (j : ℕ) → length cols < j → word level entry runs cols j ≡ pos 0
  word-above runs cols j h = word_rows runs cols j ∙ sum-cong runs (row-above runs cols j h) ∙ sum-0 runs

-- ---- entries of other runs and columns don't count

module _ {R C : Type 0} (level : C → ℕ) (entry other : R → C → ℕ) where
  pub pair-local : (cols : List C) (j : ℕ) (f g : R) → ((i : C) → Memᴰ i cols → (entry f i ≡ other f i) × (entry g i ≡ other g i)) →
      pair_sum level entry cols j f g ≡ pair_sum level other cols j f g
  pair-local cols j f g h =
      pair-esp level entry cols j f g
      ∙ esp-cong-in j cols (λ i m. ap₂ (λ a b. score (level i) a b) (h i m).0 (h i m).1)
      ∙ sym (pair-esp level other cols j f g)

  pub word-local : (runs : List R) (cols : List C) (j : ℕ) →
      ((f : R) → Memᴰ f runs → (i : C) → Memᴰ i cols → entry f i ≡ other f i) →
      word level entry runs cols j ≡ word level other runs cols j
  word-local runs cols j h =
      word-pairs level entry runs cols j
      ∙ sum-cong-in runs (λ f mf. sum-cong-in runs (λ g mg. pair-local cols j f g (λ i m. (h f mf i m, h g mg i m))))
      ∙ sym (word-pairs level other runs cols j)
