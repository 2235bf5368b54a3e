-- Document 01, "Words" (source document 002, Proposition 3.1; runs and columns are numbered from 0).
-- A plan has columns, each with a level, and runs; a run has an entry in each column.
use Rattle.std.specs.Prelude.{cond, List, ℕ, eqb, ℤ, pos, negsuc, ◌-ℤ◌}
use Rattle.exact.specs.Lists.{sum, prod}
use Rattle.sets.specs.Sets.{choose}

-- s - 1 where the two entries agree, and -1 where they differ
unfoldable pub score : ℕ → ℕ → ℕ → ℤ
score s a b = cond (eqb a b) (pos s -ℤ pos 1) (negsuc 0)

module _ {R C : Type 0} (level : C → ℕ) (entry : R → C → ℕ) where
  -- the score of column i for the runs f and g
  abbrev pub score_at : R → R → C → ℤ
  score_at f g i = score (level i) (entry f i) (entry g i)

  -- W(I): the sum, over all ordered pairs of runs, of the product of the scores in I
  unfoldable pub word_of : List R → List C → ℤ
  word_of runs I = sum runs (λ f. sum runs (λ g. prod I (score_at f g)))

  -- W_j: the sum of W(I) over all sets of j columns
  unfoldable pub word : List R → List C → ℕ → ℤ
  word runs cols j = sum (choose j cols) (λ I. word_of runs I)

  -- what the pair f, g adds to the word of length j: the sum, over all sets of j columns, of the product of the scores
  unfoldable pub pair_sum : List C → ℕ → R → R → ℤ
  pair_sum cols j f g = sum (choose j cols) (λ I. prod I (score_at f g))

  -- the row sum of run f for length j: the same sum with f fixed
  unfoldable pub row_sum : List R → List C → ℕ → R → ℤ
  row_sum runs cols j f = sum (choose j cols) (λ I. sum runs (λ g. prod I (score_at f g)))

module _ {C : Type 0} (level : C → ℕ) where
  -- E_j: the sum, over sets of j columns, of the product of (level - 1)
  unfoldable pub diagonal : List C → ℕ → ℤ
  diagonal cols j = sum (choose j cols) (λ I. prod I (λ i. pos (level i) -ℤ pos 1))
