-- Pairs of runs counted by cell: a counter for each cell that has a place, and beside it one pair of the cell.
use Rattle.std.specs.Prelude.{◌≡◌, List, [], ◌∷◌, map, ℕ, ◌+◌, ◌*◌, ◌/◌, ◌%◌, ◌≤◌, ◌<◌, ℤ, pos, ◌+ℤ◌, ◌*ℤ◌, length, get_or}
use Rattle.exact.specs.Lists.{from, sum}
use Rattle.rules.specs.Plan.{Plan, level, entry, every_column, most_columns, highest_product}
use Rattle.plan.specs.Good.{Sound}
use Rattle.pairs.specs.Words.{pair_sum}
use Rattle.pairs.specs.Given.{Row, added}
use Rattle.pairs.specs.Lists.{by_length}
use Rattle.cells.specs.Cells.{window, cell_of}

-- a row added so many times to another
unfoldable pub added_times : ℕ → List ℤ → List ℤ → List ℤ
added_times times row more = map (λ k. get_or row k (pos 0) +ℤ pos times *ℤ get_or more k (pos 0)) (from 0 most_columns)

-- ---- pairs counted by cell: for each cell how many pairs, and one of them, as f * 256 + g

-- both runs of the pair x are sound
pub record Runs (p : Plan) (x : ℕ) : Type 0 where
  pub first : Sound p (x / 256 ∷ [])
  pub second : Sound p (x % 256 ∷ [])

-- each counter that is not zero has a pair of its cell beside it
pub record Tally (p : Plan) (counts pairs : List ℕ) : Type 0 where
  pub few-counts : length counts ≤ window
  pub long-pairs : length pairs ≡ length counts
  pub there : (c : ℕ) → 0 < get_or counts c 0 → Runs p (get_or pairs c 0)
  pub same : (c : ℕ) → 0 < get_or counts c 0 → cell_of p (get_or pairs c 0 / 256) (get_or pairs c 0 % 256) ≡ c

-- every counter is at most b
pub record Few (b : ℕ) (counts : List ℕ) : Type 0 where
  pub most : (c : ℕ) → get_or counts c 0 ≤ b

-- what the pairs counted in cell c add to the word of length j
abbrev pub of_cell : Plan → List ℕ → List ℕ → ℕ → ℕ → ℤ
of_cell p counts pairs j c =
    pos (get_or counts c 0) *ℤ pair_sum (level p) (entry p) (every_column p) j (get_or pairs c 0 / 256) (get_or pairs c 0 % 256)

-- a total, with the pairs that are only counted so far
unfoldable pub worth : Plan → List ℤ → List ℕ → List ℕ → List ℤ
worth p total counts pairs = added total (by_length (λ j. sum (from 0 (length counts)) (of_cell p counts pairs j)))

-- from a total and counters to others, by which at most k pairs, that add `more` together, are counted or added
pub record Counted (p : Plan) (k : ℕ) (more : List ℤ) (total : List ℤ) (counts pairs : List ℕ) (total' : List ℤ) (counts' pairs' : List ℕ) : Type 0 where
  pub gains : worth p total' counts' pairs' ≡ added (worth p total counts pairs) more
  pub tally : Tally p counts' pairs'
  pub long : length counts' ≡ length counts
  pub few : (b : ℕ) → Few b counts → Few (b + k) counts'
  pub row : (b : ℕ) → Row b total → Row (b + k * highest_product) total'

-- counters lent at zero, and as many places for a pair of each cell
pub record Lent (counts pairs : List ℕ) : Type 0 where
  pub few : length counts ≤ window
  pub alike : length pairs ≡ length counts
  pub blank : (c : ℕ) → get_or counts c 0 ≡ 0
