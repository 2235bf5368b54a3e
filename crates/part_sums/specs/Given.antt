-- What the routines that fill the room, and those that read it, are given.
use Rattle.std.specs.Prelude.{◌≡◌, Bool, cond, ℕ, suc, ◌+◌, ◌*◌, ◌-◌, ◌≤◌, ◌<◌, length, get_or, set, ℤ, pos, nat_abs}
use mathlib.Core.List.{List, [], Memᴰ}
use Rattle.exact.specs.Lists.{from}
use Rattle.rules.specs.Plan.{Plan, columns, level, entry, most_runs}
use Rattle.plan.specs.Good.{Sound}
use Rattle.sets.specs.Sets.{choose}
use Rattle.counts.specs.Numbered.{product_of, most_numbers}
use Rattle.parts.specs.Parts.{turned}
use Rattle.part_sums.specs.Counters.{counters_of}
use Rattle.part_sums.specs.Stored.{numbers_in, place_in, places, stored_at, filled_by}

-- T of four columns of 16 levels and 256 runs
abbrev pub highest_t : ℕ
highest_t = 65_536 * 65_536

-- some columns of the plan
abbrev pub Inside : Plan → List ℕ → Type 0
Inside p J = (i : ℕ) → Memᴰ i J → i < columns p

-- what every walk over sets of up to f columns shares: the entries column after column, the numbers below 256, and cleared counters
pub record Counting (p : Plan) (rs : List ℕ) (f : ℕ) (digits every_number counters : List ℕ) : Type 0 where
  pub sound : Sound p rs
  pub size : f ≤ 4
  pub turned : digits ≡ turned (entry p) rs (from 0 (columns p))
  pub listed : every_number ≡ from 0 most_runs
  pub cleared : counters ≡ counters_of (length counters) []
  pub short : length counters ≤ most_numbers
  pub enough : (J : List ℕ) → Inside p J → length J ≤ f → product_of (level p) J ≤ length counters

-- the first columns of some sets: their numbers and their product are known, and up to `left` of the columns `rest` are still to be taken
pub record Begun (p : Plan) (rs P rest : List ℕ) (left f product : ℕ) (numbers : List ℕ) : Type 0 where
  pub taken-inside : Inside p P
  pub inside : Inside p rest
  pub few : length P + left ≤ f
  pub numbers-are : numbers ≡ numbers_in p rs P
  pub product_is : product ≡ product_of (level p) P

-- what filling is given: the columns taken are those at the place `at`
pub record Filling (p : Plan) (rs rest : List ℕ) (left f base at product : ℕ) (numbers : List ℕ) : Type 0 where
  pub taken : List ℕ
  pub begun : Begun p rs taken rest left f product numbers
  pub place : at ≡ place_in base 0 taken
  pub base-is : base ≡ columns p + 1

-- a room that holds T of every set of up to k columns
pub record Kept (p : Plan) (rs : List ℕ) (base k : ℕ) (room : List ℤ) : Type 0 where
  pub before : List ℤ
  pub base-is : base ≡ columns p + 1
  pub few : k ≤ 3
  pub wide : places base k ≤ length before
  pub small : (x : ℕ) → nat_abs (get_or before x (pos 0)) ≤ highest_t
  pub filled : room ≡ filled_by base (stored_at base p rs) k 0 (from 0 (columns p)) (set before 0 (stored_at base p rs 0))

-- a set of f columns with its product and its numbers, and a room with T of the smaller sets
pub record Worded (p : Plan) (rs : List ℕ) (f : ℕ) (I : List ℕ) (product : ℕ) (numbers : List ℕ) (room : List ℤ) : Type 0 where
  pub some : 1 ≤ f
  pub chosen : Memᴰ I (choose f (from 0 (columns p)))
  pub product_is : product ≡ product_of (level p) I
  pub numbers-are : numbers ≡ numbers_in p rs I
  pub kept : Kept p rs (columns p + 1) (f - 1) room

-- how many columns may still be taken: up to k stand in the room, and one more only as `top`
abbrev pub most_taken : Bool → ℕ → ℕ
most_taken whole k = cond whole (suc k) k

-- what the sum over the parts is given
pub record Readable (base : ℕ) (room : List ℤ) (top : ℤ) (whole : Bool) (at : ℕ) (I : List ℕ) : Type 0 where
  pub most : ℕ
  pub most-few : most ≤ 3
  pub base-low : 1 ≤ base
  pub base-few : base ≤ 25
  pub wide : places base most ≤ length room
  pub small : (k : ℕ) → nat_abs (get_or room k (pos 0)) ≤ highest_t
  pub top_small : nat_abs top ≤ highest_t
  pub few : length I ≤ most_taken whole most
  pub low : (k : ℕ) → k < length I → get_or I k 0 + 1 < base
  pub behind : at < places base (most_taken whole most - length I)
