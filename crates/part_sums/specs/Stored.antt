-- T(J): the product of the levels of J times its squared combination counts. It is worked out once for each set J of some columns and put
-- into a room; W(I) is the alternating sum of T over the parts of I.
use Rattle.std.specs.Prelude.{Bool, false, cond, List, [], ◌∷◌, ◌++◌, map, ℕ, zero, suc, ◌+◌, ◌*◌, ◌-◌, ◌/◌, ◌%◌, eqb, get_or, set, ℤ, pos, ◌-ℤ◌, ◌*ℤ◌}
use Rattle.rules.specs.Plan.{Plan, level, entry}
use Rattle.counts.specs.Numbered.{product_of, number_of}
use Rattle.parts.specs.Parts.{squares_of}

-- the numbers of the combinations that the runs have in the columns
abbrev pub numbers_in : Plan → List ℕ → List ℕ → List ℕ
numbers_in p rs J = map (λ f. number_of (level p) (entry p) f J) rs

unfoldable pub stored_of : Plan → List ℕ → List ℕ → ℤ
stored_of p rs J = pos (product_of (level p) J) *ℤ squares_of (numbers_in p rs J)

-- ---- the place of a set: its columns, from 1 on, as digits to the base b

module _ (b : ℕ) where
  -- behind the columns taken before, whose place is `at`
  abbrev pub place_in : ℕ → List ℕ → ℕ
  place_in at [] = at
  place_in at (i ∷ J) = place_in (at * b + i + 1) J

  -- how many places the sets of up to k columns need
  abbrev pub places : ℕ → ℕ
  places zero = 1
  places (suc k) = places k * b

  -- the set of up to n columns at a place
  abbrev pub columns_at : ℕ → ℕ → List ℕ
  columns_at zero x = []
  columns_at (suc n) x = cond (eqb x 0) [] (columns_at n (x / b) ++ (x % b - 1) ∷ [])

  -- T of the set at a place
  abbrev pub stored_at : Plan → List ℕ → ℕ → ℤ
  stored_at p rs x = stored_of p rs (columns_at 4 x)

  -- the room after U of each place was put into it that has the columns taken before and then up to `left` of the columns `rest`, one at least
  abbrev pub filled_by : (ℕ → ℤ) → ℕ → ℕ → List ℕ → List ℤ → List ℤ
  filled_by U zero at rest room = room
  filled_by U (suc j) at [] room = room
  filled_by U (suc j) at (i ∷ rest) room =
      filled_by U (suc j) at rest (filled_by U j (at * b + i + 1) rest (set room (at * b + i + 1) (U (at * b + i + 1))))

  -- the sum over the parts of I, plus where an even number of columns is left out; `top` stands for the whole set, where none is
  abbrev pub over_stored : List ℤ → ℤ → Bool → ℕ → List ℕ → ℤ
  over_stored room top whole at [] = cond whole top (get_or room at (pos 0))
  over_stored room top whole at (i ∷ I) = over_stored room top whole (at * b + i + 1) I -ℤ over_stored room top false at I
