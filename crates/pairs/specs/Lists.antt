-- Document 01, "Words": what a pair, a run and the levels of a plan p add to the words, as lists by word length.
use Rattle.std.specs.Prelude.{List, map, ℕ, ◌+◌, ℤ, pos, replicate}
use Rattle.exact.specs.Lists.{from}
use Rattle.rules.specs.Plan.{Plan, level, entry, every_column, most_columns}
use Rattle.pairs.specs.Words.{pair_sum, row_sum, diagonal}

-- a number for each word length, 1 to 24. A length above m has no sets of columns, so that its sums are zero
abbrev pub by_length : (ℕ → ℤ) → List ℤ
by_length f = map f (from 1 most_columns)

abbrev pub zeros : List ℤ
zeros = replicate most_columns (pos 0)

-- what the pair f, g of runs adds to the words, from length 0 on
unfoldable pub pair_list : Plan → ℕ → ℕ → List ℤ
pair_list p f g = map (λ j. pair_sum (level p) (entry p) (every_column p) j f g) (from 0 (most_columns + 1))

module _ (p : Plan) (rs : List ℕ) where
  -- the row sums of run f
  unfoldable pub row_list : ℕ → List ℤ
  row_list f = by_length (λ j. row_sum (level p) (entry p) rs (every_column p) j f)

-- E_1, E_2, ..
unfoldable pub diagonal_list : Plan → List ℤ
diagonal_list p = by_length (diagonal (level p) (every_column p))
