-- A column of one level scores 0 for every two runs, so that a set which holds it adds nothing to any word: it may be left out.
use Rattle.exact.proofs.Ground.{false, List, Memᴰ, ◌≡◌, ◌∙◌, ap, ℕ, ◌<◌, arith, ltb, pos, ℤ, ◌-ℤ◌, ltb-false}
use Rattle.exact.specs.Lists.{sum, prod, all}
use Rattle.exact.proofs.Sums.{sum-cong-in, sum-0, prod-0, sum-keep}
use Rattle.exact.proofs.Members.{some-fails}
use Rattle.rules.specs.Plan.{several}
use Rattle.sets.specs.Sets.{choose}
use Rattle.sets.proofs.Choose.{choose-keep}
use Rattle.sets.proofs.Parts.{part-mem, choose-part}
use Rattle.pairs.specs.Words.{score, score_at, word_of, word, row_sum, diagonal}
use Rattle.words.specs.Entries.{Below, AllBelow}
use Rattle.pairs.proofs.Laws.{score-agrees}

pub score-one : (s a b : ℕ) → s ≡ 1 → a < s → b < s → score s a b ≡ pos 0
score-one s a b e h l = score-agrees s a b (omega arith) ∙ ap (λ s. pos s -ℤ pos 1) e

-- ---- sets with a column of one level, and sets without

module _ {C : Type 0} (level : C → ℕ) (cols : List C) (low : (i : C) → Memᴰ i cols → 0 < level i) (j : ℕ) where
  -- a set of j columns that are not all of several levels holds one of one level
  pub holds-one : (I : List C) → Memᴰ I (choose j cols) → all I (λ i. ltb 1 (level i)) ≡ false →
      (i : C) × Memᴰ i I × Memᴰ i cols × (level i ≡ 1)
  holds-one I m e =
      let (i, n, d) = some-fails (λ i. ltb 1 (level i)) I e in
      let k = part-mem (choose-part j cols I m).0 i n in
      (i, n, k, omega (arith, low i k, ltb-false 1 (level i) d))

  sum-several : (F : List C → ℤ) → ((i : C) → Memᴰ i cols → level i ≡ 1 → (I : List C) → Memᴰ i I → F I ≡ pos 0) →
      sum (choose j cols) F ≡ sum (choose j (several level cols)) F
  sum-several F h =
      sum-keep (λ I. all I (λ i. ltb 1 (level i))) (choose j cols) F (λ I m d. let (i, n, k, e) = holds-one I m d in h i k e I n)
      ∙ ap (λ l. sum l F) (choose-keep (λ i. ltb 1 (level i)) j cols)

  pub diagonal-several : diagonal level cols j ≡ diagonal level (several level cols) j
  unfolding diagonal
  diagonal-several =
      sum-several (λ I. prod I (λ i. pos (level i) -ℤ pos 1))
      (λ i k e I n. prod-0 I (λ i. pos (level i) -ℤ pos 1) i n (ap (λ s. pos s -ℤ pos 1) e))

-- ---- words and row sums

module _ {R C : Type 0} (level : C → ℕ) (entry : R → C → ℕ) (runs : List R) where
  -- with one run of a pair fixed
  one-level-row : (i : C) → level i ≡ 1 → Below level entry runs i → (I : List C) → Memᴰ i I → (f : R) → Memᴰ f runs →
      sum runs (λ g. prod I (score_at level entry f g)) ≡ pos 0
  one-level-row i e v I n f m =
      sum-cong-in runs (λ g k. prod-0 I (score_at level entry f g) i n (score-one (level i) (entry f i) (entry g i) e (v.1 f m) (v.1 g k)))
      ∙ sum-0 runs

  pub one-level-word : (i : C) → level i ≡ 1 → Below level entry runs i → (I : List C) → Memᴰ i I → word_of level entry runs I ≡ pos 0
  unfolding word_of
  one-level-word i e v I n = sum-cong-in runs (one-level-row i e v I n) ∙ sum-0 runs

  module _ (cols : List C) (v : AllBelow level entry runs cols) (j : ℕ) where
    pub words-several : word level entry runs cols j ≡ word level entry runs (several level cols) j
    unfolding word
    words-several = sum-several level cols (λ i m. (v i m).0) j (word_of level entry runs) (λ i m e. one-level-word i e (v i m))

    pub rows-several : (f : R) → Memᴰ f runs → row_sum level entry runs cols j f ≡ row_sum level entry runs (several level cols) j f
    unfolding row_sum
    rows-several f k =
        sum-several level cols (λ i m. (v i m).0) j (λ I. sum runs (λ g. prod I (score_at level entry f g)))
        (λ i m e I n. one-level-row i e (v i m) I n f k)
