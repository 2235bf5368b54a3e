-- The answer, computed: the levels of column a in groups, each of levels that the runs can compare, and the pairs of runs that show it.
use Rattle.std.specs.Prelude.{Bool, cond, List, [], ◌∷◌, ◌++◌, map, ℕ, max, min, eqb, length, get_or}
use Rattle.exact.specs.Lists.{from, all, keep, count, alike, filled_to}
use Rattle.rules.specs.Plan.{Plan, entry}
use Rattle.tell.specs.declared.Joins.{Joins}

-- ---- groups of levels: place x of the list holds the group of level x, named by its lowest level

abbrev pub group_of : List ℕ → ℕ → ℕ
group_of gs x = get_or gs x 0

-- how many groups of s levels there are: the levels that name one
unfoldable pub group_count : ℕ → List ℕ → ℕ
group_count s gs = count (λ x. eqb (group_of gs x) x) (from 0 s)

-- p and q become one group, named by the lower
abbrev pub renamed : ℕ → ℕ → ℕ → ℕ
renamed p q k = cond (eqb k (max p q)) (min p q) k

module _ {E : Type 0} (left right : E → ℕ) where
  -- the groups of the two levels that e joins become one
  abbrev pub joined : E → List ℕ → List ℕ
  joined e gs = map (renamed (group_of gs (left e)) (group_of gs (right e))) gs

  -- one after the other
  abbrev pub grouped : List E → List ℕ → List ℕ
  grouped [] gs = gs
  grouped (e ∷ es) gs = grouped es (joined e gs)

  -- those by which two groups became one
  abbrev pub linked : List E → List ℕ → List E
  linked [] gs = []
  linked (e ∷ es) gs =
      let later = linked es (joined e gs) in cond (eqb (group_of gs (left e)) (group_of gs (right e))) later (e ∷ later)

-- ---- of runs

module _ {R C : Type 0} (entry : R → C → ℕ) (J : List C) where
  -- whether the runs f and g are in one cell
  abbrev pub agree : R → R → Bool
  agree f g = all J (λ i. eqb (entry f i) (entry g i))

module _ {R C : Type 0} (entry : R → C → ℕ) (a : C) (J : List C) where
  -- the pairs of runs that are in one cell, each once
  abbrev pub pairs : List R → List (R × R)
  pairs [] = []
  pairs (f ∷ rest) = map (λ g. (f, g)) (keep (agree entry J f) rest) ++ pairs rest

  -- the levels of column a that two runs of a pair have
  abbrev pub left_level : R × R → ℕ
  left_level e = entry e.0 a

  abbrev pub right_level : R × R → ℕ
  right_level e = entry e.1 a

  -- the groups of the s levels of column a that the runs can compare
  unfoldable pub groups : ℕ → List R → List ℕ
  groups s rs = grouped left_level right_level (pairs rs) (from 0 s)

  -- evidence for yes: pairs of runs that join the groups, at most s - 1
  unfoldable pub links : ℕ → List R → List (R × R)
  links s rs = linked left_level right_level (pairs rs) (from 0 s)

  -- whether the levels that occur are all in one group
  unfoldable pub tells : ℕ → List R → Bool
  tells s rs = let gs = groups s rs in alike (map (λ f. group_of gs (entry f a)) rs)

-- ---- of the runs rs of a plan, by their numbers

-- a place for each of the most levels that a column has
abbrev pub most_groups : ℕ
most_groups = 16

-- the groups and the pairs of runs that made them, and zero in each place left over
abbrev pub joins_of : List ℕ → List (ℕ × ℕ) → Joins
joins_of names ls = record {
  groups = names;
  left = filled_to most_groups 0 (map (λ e. e.0) ls);
  right = filled_to most_groups 0 (map (λ e. e.1) ls);
  many = length ls;
}

-- the groups of column a against J, with the links
unfoldable pub evidence : Plan → List ℕ → ℕ → List ℕ → Joins
evidence p rs a J = joins_of (groups (entry p) a J most_groups rs) (links (entry p) a J most_groups rs)
