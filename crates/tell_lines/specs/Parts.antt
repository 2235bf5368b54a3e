-- How the lines are put together: each part by what it is written from.
use Rattle.std.specs.Prelude.{◌≡◌, Bool, cond, not, ◌&&◌, ℕ, ◌≤◌, ◌<◌, eqb, length, get_or}
use mathlib.Core.List.{List, [], ◌∷◌, ◌++◌, map, Memᴰ}
use Rattle.exact.specs.Lists.{from, keep, each, holds, first}
use Rattle.exact.specs.declared.fractions.Fraction.{Fraction}
use Rattle.rules.specs.Plan.{Plan, columns, level, entry, most_columns, highest_product}
use Rattle.counts.specs.Numbered.{product_of, number_of}
use Rattle.text.specs.Bytes.{bytes}
use Rattle.lines.specs.Lines.{line_of}
use Rattle.tell.specs.declared.Joins.{Joins}
use Rattle.tell.specs.declared.Told.{Told}
use Rattle.tell.specs.Given.{Asked}
use Rattle.tell.specs.Evidence.{group_of, most_groups}
use Rattle.tell.specs.Answer.{told}
use Rattle.tell.specs.Words.{words_figure}
use Rattle.tell.specs.Tell.{cell}

-- no answer is longer
abbrev pub most_bytes : ℕ
most_bytes = 144_000

-- no line has more numbers: one, and one for each column
abbrev pub most_fields : ℕ
most_fields = 25

-- ---- levels, of what the runs have in column a, and of the groups

abbrev pub column_of : Plan → List ℕ → ℕ → List ℕ
column_of p rs a = map (λ f. entry p f a) rs

abbrev pub absent_lines_of : List ℕ → ℕ → List ℕ
absent_lines_of xs s = each (keep (λ x. not (holds x xs)) (from 0 s)) (λ x. line_of (bytes "absent") (x ∷ []))

abbrev pub members_of : List ℕ → ℕ → ℕ → List ℕ
members_of gs s k = keep (λ x. eqb (group_of gs x) k) (from 0 s)

abbrev pub group_lines_of : List ℕ → List ℕ → ℕ → List ℕ
group_lines_of gs xs s = each (keep (λ x. eqb (group_of gs x) x && holds x xs) (from 0 s)) (λ k. line_of (bytes "group") (members_of gs s k))

abbrev pub level_lines_of : Plan → List ℕ → ℕ → List ℕ → List ℕ
level_lines_of p rs a gs = absent_lines_of (column_of p rs a) (level p a) ++ group_lines_of gs (column_of p rs a) (level p a)

-- ---- pairs of runs

-- the runs at place k of the two rows
abbrev pub pair_line_at : Plan → ℕ → List ℕ → List ℕ → ℕ → List ℕ
pair_line_at p a left right k =
    let f = get_or left k 0 in
    let g = get_or right k 0 in
    line_of (bytes "pair") (f ∷ g ∷ entry p f a ∷ entry p g a ∷ [])

abbrev pub pair_lines_of : Plan → ℕ → Joins → List ℕ
pair_lines_of p a j = each (from 0 j.many) (pair_line_at p a j.left j.right)

-- the runs of each pair lie in the plan
pub record Linked (p : Plan) (a : ℕ) (j : Joins) : Type 0 where
  pub few : j.many ≤ most_groups
  pub left-size : length j.left ≡ most_groups
  pub right-size : length j.right ≡ most_groups
  pub left-run : (k : ℕ) → k < j.many → Asked p (get_or j.left k 0 ∷ []) a []
  pub right-run : (k : ℕ) → k < j.many → Asked p (get_or j.right k 0 ∷ []) a []

-- ---- cells, by their numbers in dictionary order

-- columns whose cells can be numbered and shown
pub record Shown (p : Plan) (J : List ℕ) : Type 0 where
  pub inside : (i : ℕ) → Memᴰ i J → i < columns p
  pub few : length J ≤ most_columns
  pub small : product_of (level p) J ≤ highest_product

-- the numbers of the cells that the runs are in
abbrev pub numbers_of : Plan → List ℕ → List ℕ → List ℕ
numbers_of p rs J = map (λ f. number_of (level p) (entry p) f J) rs

-- runs with a column and others, and the numbers of their cells
pub record Numbered (p : Plan) (rs : List ℕ) (a : ℕ) (J numbers : List ℕ) : Type 0 where
  pub asked : Asked p rs a J
  pub shown : Shown p J
  pub are : numbers ≡ numbers_of p rs J

-- where the first run of cell k stands
abbrev pub place_of : List ℕ → ℕ → ℕ
place_of numbers k = first (λ i. eqb (get_or numbers i 0) k) 0 (length numbers)

-- the cell of run f behind the name of its group
abbrev pub cell_line_of : Plan → List ℕ → ℕ → ℕ → List ℕ
cell_line_of p J k f = line_of (bytes "cell") (k ∷ cell (entry p) J f)

module _ (p : Plan) (rs : List ℕ) (a : ℕ) (J gs : List ℕ) where
  abbrev pub cell_line_at : ℕ → List ℕ
  cell_line_at k =
      let f = get_or rs (place_of (numbers_of p rs J) k) 0 in cell_line_of p J (group_of gs (entry p f a)) f

  -- those with numbers from 0 on, n of them
  abbrev pub cell_lines_to : ℕ → List ℕ
  cell_lines_to n = each (keep (λ k. holds k (numbers_of p rs J)) (from 0 n)) cell_line_at

  -- all of them, where the answer is no
  abbrev pub split_lines_of : Bool → List ℕ
  split_lines_of told = cond told [] (cell_lines_to (product_of (level p) J))

-- ---- the answer

-- a question that is not refused, and what the routines of `tell` answer to it
pub record Answered (p : Plan) (rs : List ℕ) (a : ℕ) (J : List ℕ) (t : Told) (words : Fraction) : Type 0 where
  pub asked : Asked p rs a J
  pub shown : Shown p J
  pub is-told : t ≡ told p rs a J
  pub are_words : words ≡ words_figure (level p) (entry p) rs a J
