-- Document 01, "Refusal numbers": the fourteen checks, their places and their order. Number 12 is not used: request #109 withdrew it. Number 15 is not given yet.
use Rattle.std.specs.Prelude.{Bool, cond, not, ◌&&◌, ◌||◌, List, [], ◌∷◌, ◌++◌, ℕ, ◌/◌, ◌%◌, eqb, ltb, ℤ, pos, neg_ℤ, length, get_or}
use Rattle.exact.specs.Lists.{all, keep, each, product, rise, outside, first}
use Rattle.std.specs.Prelude.{Result, Ok, Err}
use Rattle.rules.specs.declared.Refusal.{Refusal}
use Rattle.rules.specs.Plan.{Plan, columns, runs, level, most_columns, most_runs, lowest_level, highest_level, highest_product, longest_text}

-- ---- a refusal carries its number and two place numbers; number 0 is no refusal

abbrev pub placed : ℕ → ℕ → ℕ → Refusal
placed number first second = record { number = number; first = first; second = second }

abbrev pub plain : ℕ → Refusal
plain number = placed number 0 0

abbrev pub accepted : Refusal
accepted = plain 0

abbrev pub refuses : Refusal → Bool
refuses r = not (eqb r.number 0)

-- ---- a check of a call: whether it fails, and the refusal that it then gives

pub record Check : Type 0 where
  pub fails : Bool
  pub gives : Refusal

-- the order in which the checks stand
abbrev pub order : List ℕ
order = 13 ∷ 14 ∷ 1 ∷ 2 ∷ 3 ∷ 4 ∷ 5 ∷ 6 ∷ 16 ∷ 8 ∷ 9 ∷ 10 ∷ 11 ∷ 7 ∷ []

-- the checks that concern a call, in that order
abbrev pub ordered : List Check → List Check
ordered checks = each order (λ k. keep (λ c. eqb c.gives.number k) checks)

-- what the first that fails gives
abbrev pub first_failing : List Check → Refusal
first_failing [] = accepted
first_failing (c ∷ cs) = let later = first_failing cs in cond c.fails c.gives later

-- the refusal of a call with these checks
abbrev pub refusal : List Check → Refusal
refusal checks = first_failing (ordered checks)

-- what a call answers: its value, or the refusal
abbrev pub answered : {A : Type 0} → Refusal → A → Result A Refusal
answered r value = cond (refuses r) (Err r) (Ok value)

-- the refusal in an answer
abbrev pub refusal_in : {A : Type 0} → Result A Refusal → Refusal
refusal_in (Ok value) = accepted
refusal_in (Err r) = r

-- what stands in a refusal, the blank, and else the value
abbrev pub unless : {A : Type 0} → Refusal → A → A → A
unless r blank value = cond (refuses r) blank value

-- the first refusal, and where there is none the second
abbrev pub or_else : Refusal → Refusal → Refusal
or_else r s = unless r r s

-- what a C program gets: a number, or the refusal's number negated
abbrev pub number_or : Result ℤ Refusal → ℤ
number_or (Ok value) = value
number_or (Err r) = neg_ℤ (pos r.number)

-- no refusal has a larger number
abbrev pub largest_number : ℕ
largest_number = 16

-- ---- the fourteen

abbrev pub check : ℕ → Bool → Check
check k b = record { fails = b; gives = plain k }

abbrev pub check_at : ℕ → Bool → ℕ → ℕ → Check
check_at k b x y = record { fails = b; gives = placed k x y }

-- 1: no column, or more than 24
abbrev pub bad_columns : ℕ → Check
bad_columns m = check 1 (outside 1 most_columns m)

-- the first column whose level is outside 1..16, and m where there is none
unfoldable pub first_bad_level : Plan → ℕ
first_bad_level p = first (λ i. outside lowest_level highest_level (level p i)) 0 (columns p)

-- 2: a level is outside 1..16; the first such column
abbrev pub bad_level : Plan → Check
bad_level p = check_at 2 (ltb (first_bad_level p) (columns p)) (first_bad_level p) 0

-- 3: the product is above its limit
abbrev pub bad_product : Plan → Check
bad_product p = check 3 (ltb highest_product (product p.levels))

-- 4: the table is empty, not a multiple of m, or over 256 runs
abbrev pub bad_table : Plan → Check
bad_table p = check 4 (eqb (length p.table) 0 || not (eqb (length p.table % columns p) 0) || ltb most_runs (runs p))

-- the first entry, in run order and then column order, that is not below its level; the table's length where there is none
unfoldable pub first_bad_entry : Plan → ℕ
first_bad_entry p = first (λ k. not (ltb (get_or p.table k 0) (level p (k % columns p)))) 0 (length p.table)

-- 5: an entry is not below its level; run, column
abbrev pub bad_entry : Plan → Check
bad_entry p = check_at 5 (ltb (first_bad_entry p) (length p.table)) (first_bad_entry p / columns p) (first_bad_entry p % columns p)

-- 6: projection size f is outside 1..4 or above m
abbrev pub bad_size : ℕ → ℕ → Check
bad_size m f = check 6 (outside 1 4 f || ltb m f)

-- 6: k is outside 1..3
abbrev pub bad_number : ℕ → Check
bad_number k = check 6 (outside 1 3 k)

-- 16: the relative table is asked for f above R, the smallest j with W_j above zero
abbrev pub past_resolution : Bool → ℕ → ℕ → Check
past_resolution relative R f = check 16 (relative && ltb R f)

-- 7: a lent room is too small for the whole answer
abbrev pub bad_room : ℕ → ℕ → Check
bad_room needed room = check 7 (ltb room needed)

-- 8: a run, column or place is not one of the n from 0 on
abbrev pub bad_place : ℕ → ℕ → Check
bad_place n k = check 8 (not (ltb k n))

-- 8: a word length is outside 1..m
abbrev pub bad_length : ℕ → ℕ → Check
bad_length m j = check 8 (outside 1 m j)

-- whether the numbers are columns of m, rising
abbrev pub is_set : ℕ → List ℕ → Bool
is_set m I = rise I && all I (λ i. ltb i m)

-- 8: a projection's columns are not f in number, don't rise, or are out of range
abbrev pub bad_set : ℕ → ℕ → List ℕ → Check
bad_set m f I = check 8 (not (eqb (length I) f && is_set m I))

-- 9: the run is already struck, or already standing
abbrev pub already : Bool → Check
already b = check 9 b

-- 10: fewer runs stand than the call needs
abbrev pub too_few : ℕ → ℕ → Check
too_few needed standing = check 10 (ltb standing needed)

-- 11: every word of length 1 to m is zero, so that the search for R has passed m
abbrev pub no_resolution : ℕ → ℕ → Check
no_resolution m R = check 11 (ltb m R)

-- 13: the text is too long
abbrev pub too_long : ℕ → Check
too_long bytes = check 13 (ltb longest_text bytes)

-- 14: a text line is malformed; the first such line, from 1 (0 where there is none)
abbrev pub malformed : ℕ → Check
malformed line = check_at 14 (not (eqb line 0)) line 0

-- ---- how a call begins

-- the checks of levels, of a table, and of both
abbrev pub level_checks : Plan → List Check
level_checks p = bad_columns (columns p) ∷ bad_level p ∷ bad_product p ∷ []

abbrev pub table_checks : Plan → List Check
table_checks p = bad_table p ∷ bad_entry p ∷ []

abbrev pub plan_checks : Plan → List Check
plan_checks p = level_checks p ++ table_checks p

-- a call on levels and table: their checks, then its own
abbrev pub of_plan : Plan → List Check → List Check
of_plan p checks = plan_checks p ++ checks

-- a call on a held plan that names no run: where none stands the answer is 10, ahead of every other check
abbrev pub of_held : List ℕ → List Check → List Check
of_held standing checks = cond (eqb (length standing) 0) (too_few 1 0 ∷ []) checks
