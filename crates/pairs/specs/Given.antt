-- Rows of sums by word length: what the routines over pairs of runs are given, and what a step makes of them.
use Rattle.std.specs.Prelude.{◌≡◌, List, [], ◌∷◌, map, ℕ, ◌+◌, ◌≤◌, ◌<◌, length, get_or, set, ℤ, pos, nat_abs, ◌+ℤ◌, ◌*ℤ◌}
use Rattle.exact.specs.Lists.{from, sum}
use Rattle.rules.specs.Plan.{Plan, level, entry, every_column, most_columns, highest_level, highest_product}
use Rattle.pairs.specs.Words.{pair_sum}
use Rattle.pairs.specs.Lists.{by_length}

-- a row with a number for each word length, each at most b in size
pub record Row (b : ℕ) (row : List ℤ) : Type 0 where
  pub long : length row ≡ most_columns
  pub small : (k : ℕ) → nat_abs (get_or row k (pos 0)) ≤ b

-- the first numbers of such a row
pub record Part (b : ℕ) (row : List ℤ) : Type 0 where
  pub short : length row ≤ most_columns
  pub small : (k : ℕ) → nat_abs (get_or row k (pos 0)) ≤ b

-- a row that starts at length 0, of sums over fewer columns than there may be: zero at each length above their number
pub record OfColumns (columns : ℕ) (row : List ℤ) : Type 0 where
  pub few : columns < most_columns
  pub long : length row ≡ most_columns + 1
  pub small : (k : ℕ) → nat_abs (get_or row k (pos 0)) ≤ highest_product
  pub above : (k : ℕ) → columns < k → get_or row k (pos 0) ≡ pos 0

-- the sums at places k and k + 1 of a row, and the score x of a column, are small
pub record Gains (x : ℤ) (k : ℕ) (row : List ℤ) : Type 0 where
  pub inside : k < most_columns
  pub sum : nat_abs (get_or row (k + 1) (pos 0)) ≤ highest_product
  pub less : nat_abs (get_or row k (pos 0)) ≤ highest_product
  pub score : nat_abs x ≤ highest_level

-- the sum at place k + 1 gains x times that of one length less
abbrev pub gained : ℤ → ℕ → List ℤ → List ℤ
gained x k row = set row (k + 1) (get_or row (k + 1) (pos 0) +ℤ x *ℤ get_or row k (pos 0))

-- the row with one column more, of score x: each sum gains x times the sum of one length less
unfoldable pub with_column : ℤ → List ℤ → List ℤ
with_column x row = get_or row 0 (pos 0) ∷ map (λ k. get_or row (k + 1) (pos 0) +ℤ x *ℤ get_or row k (pos 0)) (from 0 most_columns)

-- two rows added, length by length; the second may be a part
unfoldable pub added : List ℤ → List ℤ → List ℤ
added row more = map (λ k. get_or row k (pos 0) +ℤ get_or more k (pos 0)) (from 0 most_columns)

module _ {R : Type 0} (k : R → R → ℤ) where
  -- a sum over each pair of different runs once
  abbrev pub once : List R → ℤ
  once [] = pos 0
  once (f ∷ runs) = sum runs (λ g. k f g) +ℤ once runs

-- what each pair of different runs adds to the words, once
unfoldable pub once_list : Plan → List ℕ → List ℤ
once_list p rs = by_length (λ j. once (λ f g. pair_sum (level p) (entry p) (every_column p) j f g) rs)
