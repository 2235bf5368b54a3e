-- What the routines are given, and what they hand to one another: the groups and the links after some pairs of runs.
use Rattle.std.specs.Prelude.{◌≡◌, Bool, cond, not, ◌&&◌, ℕ, ◌+◌, ◌≤◌, ◌<◌, eqb, ℤ, pos, length, set}
use mathlib.Core.List.{List, [], ◌∷◌, map, Memᴰ}
use Rattle.exact.specs.Lists.{keep}
use Rattle.rules.specs.Plan.{Plan, columns, level, entry}
use Rattle.plan.specs.Good.{Sound}
use Rattle.words.specs.Words.{score_at}
use Rattle.tell.specs.declared.Joins.{Joins}
use Rattle.tell.specs.Evidence.{group_of, group_count, renamed, agree, left_level, right_level, most_groups}

-- columns of the m from 0 on
abbrev pub Inside : ℕ → List ℕ → Type 0
Inside m J = (i : ℕ) → Memᴰ i J → i < m

-- some runs of a plan, a column of it and others
pub record Asked (p : Plan) (rs : List ℕ) (a : ℕ) (J : List ℕ) : Type 0 where
  pub sound : Sound p rs
  pub column : a < columns p
  pub others : Inside (columns p) J

-- ---- the walk over the pairs of runs

-- names that are each the lowest of its group, and a link for each that is one no longer: so there is room for one more
pub record Kept (j : Joins) : Type 0 where
  pub size : length j.groups ≡ most_groups
  pub left-size : length j.left ≡ most_groups
  pub right-size : length j.right ≡ most_groups
  pub low : (x : ℕ) → x < most_groups → group_of j.groups x ≤ x
  pub own : (x : ℕ) → x < most_groups → group_of j.groups (group_of j.groups x) ≡ group_of j.groups x
  pub room : j.many + group_count most_groups j.groups ≡ most_groups

-- the places from s on, which no level of the column has, were never joined
abbrev pub Unjoined : ℕ → Joins → Type 0
Unjoined s j = (x : ℕ) → s ≤ x → x < most_groups → group_of j.groups x ≡ x

-- after the runs f and g, which are in one cell, with levels x and y: one more link, where the two are in different groups
abbrev pub after_pair : Joins → ℕ → ℕ → ℕ → ℕ → Joins
after_pair j f g x y =
    cond (eqb (group_of j.groups x) (group_of j.groups y)) j (record {
      groups = map (renamed (group_of j.groups x) (group_of j.groups y)) j.groups;
      left = set j.left j.many f;
      right = set j.right j.many g;
      many = j.many + 1;
    })

module _ (p : Plan) (a : ℕ) (J : List ℕ) where
  -- whether the runs f and g are in one cell and have levels of different groups
  abbrev pub joins_groups : List ℕ → ℕ → ℕ → Bool
  joins_groups names f g = agree (entry p) J f g && not (eqb (group_of names (entry p f a)) (group_of names (entry p g a)))

  abbrev pub after_pairs : List (ℕ × ℕ) → Joins → Joins
  after_pairs [] j = j
  after_pairs (e ∷ es) j = after_pairs es (after_pair j e.0 e.1 (left_level (entry p) a J e) (right_level (entry p) a J e))

  -- after run f met the later runs of its cell
  abbrev pub after_run : ℕ → List ℕ → Joins → Joins
  after_run f gs j = after_pairs (map (λ g. (f, g)) (keep (agree (entry p) J f) gs)) j

-- ---- the figure of the words

-- the score of column a for two runs in one cell, and 0 for two in different cells
abbrev pub cell_score : Plan → ℕ → List ℕ → ℕ → ℕ → ℤ
cell_score p a J f g = cond (agree (entry p) J f g) (score_at (level p) (entry p) f g a) (pos 0)
