-- Document 01, "Strength, resolution, projections": sets of columns, numbered in dictionary order; the place question both ways.
use Rattle.std.specs.Prelude.{cond, List, [], ◌∷◌, ◌++◌, map, ℕ, zero, suc, ◌+◌, length, get_or}
use Rattle.exact.specs.Lists.{from, same}
use Rattle.std.specs.Prelude.{Result}
use Rattle.rules.specs.declared.Refusal.{Refusal}
use Rattle.rules.specs.Refusals.{Check, refusal, answered, bad_columns, bad_size, bad_set, bad_place}

module _ {A : Type 0} where
  -- the sets of j members of the list, in dictionary order; a set is the list of its members
  abbrev pub choose : ℕ → List A → List (List A)
  choose zero xs = [] ∷ []
  choose (suc j) [] = []
  choose (suc j) (x ∷ xs) = map (λ I. x ∷ I) (choose j xs) ++ choose (suc j) xs

  -- every set of members of the list
  abbrev pub subsets : List A → List (List A)
  subsets [] = [] ∷ []
  subsets (x ∷ xs) = map (λ I. x ∷ I) (subsets xs) ++ subsets xs

-- the binomials, by Pascal's rule; zero where b is above a
abbrev pub binom : ℕ → ℕ → ℕ
binom a zero = 1
binom zero (suc b) = 0
binom (suc a) (suc b) = binom a b + binom a (suc b)

-- the place of I in a list of sets: how many stand before it
abbrev pub position : List ℕ → List (List ℕ) → ℕ
position I [] = 0
position I (J ∷ Js) = let later = suc (position I Js) in cond (same I J) 0 later

-- the sets of f of m columns
abbrev pub sets_of : ℕ → ℕ → List (List ℕ)
sets_of m f = choose f (from 0 m)

-- the set at a place
unfoldable pub set_at : ℕ → ℕ → ℕ → List ℕ
set_at m f k = get_or (sets_of m f) k []

-- the place of a set
unfoldable pub place_of : ℕ → List ℕ → ℕ
place_of m I = position I (sets_of m (length I))

-- ---- the question, both ways: m and f with the columns, or with the place

-- the checks of m and f
abbrev pub size_checks : ℕ → ℕ → List Check
size_checks m f = bad_columns m ∷ bad_size m f ∷ []

abbrev pub place_checks : ℕ → ℕ → List ℕ → List Check
place_checks m f I = size_checks m f ++ bad_set m f I ∷ []

unfoldable pub place_answer : ℕ → ℕ → List ℕ → Result ℕ Refusal
place_answer m f I = answered (refusal (place_checks m f I)) (place_of m I)

abbrev pub set_checks : ℕ → ℕ → ℕ → List Check
set_checks m f k = size_checks m f ++ bad_place (length (sets_of m f)) k ∷ []

unfoldable pub set_answer : ℕ → ℕ → ℕ → Result (List ℕ) Refusal
set_answer m f k = answered (refusal (set_checks m f k)) (set_at m f k)
