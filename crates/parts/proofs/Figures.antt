-- Worked figures: words from counts, beside the same from pairs.
use Rattle.exact.proofs.Ground.{List, [], ◌∷◌, map, ◌≡◌, refl, ℕ, pos, nat_abs, ◌*ℤ◌, ◌-ℤ◌, length}
use Rattle.exact.specs.Lists.{prod}
use Rattle.rules.specs.Plan.{Plan, plan, level, entry, every_run}
use Rattle.words.specs.Words.{score, word_of}
use Rattle.parts.specs.Parts.{squared_counts, from_combinations}

-- ---- W(I) from counts, by the sum that request #108 gives

record Word : Type 0 where
  asked : Plan
  columns : List ℕ
  word : ℕ

abbrev has : List ℕ → List ℕ → List ℕ → ℕ → Word
has levels table I w = record { asked = plan levels table; columns = I; word = w }

words : List Word
words =
    -- runs 000 011 101 110: all three columns, two of them, and none
    has (2 ∷ 2 ∷ 2 ∷ []) (0 ∷ 0 ∷ 0 ∷ 0 ∷ 1 ∷ 1 ∷ 1 ∷ 0 ∷ 1 ∷ 1 ∷ 1 ∷ 0 ∷ []) (0 ∷ 1 ∷ 2 ∷ []) 16
    ∷ has (2 ∷ 2 ∷ 2 ∷ []) (0 ∷ 0 ∷ 0 ∷ 0 ∷ 1 ∷ 1 ∷ 1 ∷ 0 ∷ 1 ∷ 1 ∷ 1 ∷ 0 ∷ []) (0 ∷ 2 ∷ []) 0
    ∷ has (2 ∷ 2 ∷ 2 ∷ []) (0 ∷ 0 ∷ 0 ∷ 0 ∷ 1 ∷ 1 ∷ 1 ∷ 0 ∷ 1 ∷ 1 ∷ 1 ∷ 0 ∷ []) [] 16
    -- runs 00 01 12: one column, and both
    ∷ has (2 ∷ 3 ∷ []) (0 ∷ 0 ∷ 0 ∷ 1 ∷ 1 ∷ 2 ∷ []) (0 ∷ []) 1
    ∷ has (2 ∷ 3 ∷ []) (0 ∷ 0 ∷ 0 ∷ 1 ∷ 1 ∷ 2 ∷ []) (0 ∷ 1 ∷ []) 8
    -- runs 0 1 of one column whose level 2 never occurs
    ∷ has (3 ∷ []) (0 ∷ 1 ∷ []) (0 ∷ []) 2
    -- with a column of one level
    ∷ has (1 ∷ 2 ∷ []) (0 ∷ 0 ∷ 0 ∷ 0 ∷ []) (0 ∷ 1 ∷ []) 0
    ∷ has (1 ∷ 2 ∷ []) (0 ∷ 0 ∷ 0 ∷ 0 ∷ []) (1 ∷ []) 4
    ∷ []

from-pairs : Word → ℕ
unfolding word_of score
from-pairs x = let p = x.asked in nat_abs (word_of (level p) (entry p) (every_run p) x.columns)

from-counts : Word → ℕ
unfolding from_combinations squared_counts
from-counts x = let p = x.asked in nat_abs (from_combinations (level p) (entry p) (every_run p) x.columns)

as-from-pairs : map from-pairs words ≡ map (λ x. x.word) words
unfolding from-pairs words
as-from-pairs = refl

as-from-counts : map from-counts words ≡ map (λ x. x.word) words
unfolding from-counts words
as-from-counts = refl

-- ---- W(I) of columns that have no other word, as request #109 gives it: a set of R columns, and one with a column of one level, which has none

alone : List Word
alone =
    has (2 ∷ 2 ∷ 2 ∷ []) (0 ∷ 0 ∷ 0 ∷ 0 ∷ 1 ∷ 1 ∷ 1 ∷ 0 ∷ 1 ∷ 1 ∷ 1 ∷ 0 ∷ []) (0 ∷ 1 ∷ 2 ∷ []) 16
    ∷ has (2 ∷ 3 ∷ []) (0 ∷ 0 ∷ 0 ∷ 1 ∷ 1 ∷ 2 ∷ []) (0 ∷ []) 1
    ∷ has (3 ∷ []) (0 ∷ 1 ∷ []) (0 ∷ []) 2
    ∷ has (1 ∷ 2 ∷ []) (0 ∷ 0 ∷ 0 ∷ 1 ∷ []) (0 ∷ 1 ∷ []) 0
    ∷ []

from-squares : Word → ℕ
unfolding squared_counts
from-squares x =
    let p = x.asked in
    let n = length (every_run p) in
    nat_abs (prod x.columns (λ i. pos (level p i)) *ℤ squared_counts (level p) (entry p) (every_run p) x.columns -ℤ pos n *ℤ pos n)

alone-from-pairs : map from-pairs alone ≡ map (λ x. x.word) alone
unfolding from-pairs alone
alone-from-pairs = refl

alone-from-squares : map from-squares alone ≡ map (λ x. x.word) alone
unfolding from-squares alone
alone-from-squares = refl
