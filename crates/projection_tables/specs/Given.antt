-- What the routines that fill a table are given.
use Rattle.std.specs.Prelude.{Bool, true, not, ◌&&◌, ◌||◌, leb, ◌≡◌, ℕ, ◌+◌, ◌-◌, ◌≤◌, ◌<◌, ◌^◌, ℤ, length, get_or, take, drop}
use mathlib.Core.List.{List, [], ◌∷◌, ◌++◌, map, Memᴰ}
use Rattle.exact.specs.Fractions.{smaller_fraction, is_better, ShortDenominator}
use Rattle.exact.specs.declared.fractions.Fraction.{Fraction}
use Rattle.exact.specs.declared.fractions.Verdict.TheVariants.{Better}
use Rattle.std.specs.List.{list_all}
use Rattle.exact.specs.Lists.{from}
use Rattle.rules.specs.Plan.{Plan, columns, level}
use Rattle.sets.specs.Sets.{choose}
use Rattle.words.specs.Answers.{word_list}
use Rattle.set_words.specs.Given.{Tabled}
use Rattle.counts.specs.Numbered.{product_of, most_numbers}
use Rattle.set_words.specs.SetWords.{value_in}
use Rattle.part_sums.specs.Stored.{places}
use Rattle.part_sums.specs.Given.{Begun, Inside, Kept}
use Rattle.projection_tables.specs.Tables.{Line, table_of, one_more, Rooms, fraction_at, lines_in}

module _ {A : Type 0} where
  -- the list with x put in before place k
  abbrev pub put_before : ℕ → A → List A → List A
  put_before k x xs = take k xs ++ x ∷ drop k xs

-- whether the fraction at place k is not smaller than v
abbrev pub not_smaller : List ℕ → List ℕ → Fraction → ℕ → Bool
not_smaller nums dens v k = not (is_better (smaller_fraction (fraction_at nums dens k) v))

-- the fractions in the first places rise
abbrev pub RisingIn : List ℕ → List ℕ → ℕ → Type 0
RisingIn nums dens used = (j k : ℕ) → j < k → k < used → smaller_fraction (fraction_at nums dens j) (fraction_at nums dens k) ≡ Better

-- what the loop for a value's place is given: the fractions in the first places can be compared, and rise
pub record Comparable (nums dens : List ℕ) (used : ℕ) : Type 0 where
  pub nums-hold : used ≤ length nums
  pub dens-hold : used ≤ length dens
  pub short : (k : ℕ) → k < used → ShortDenominator (fraction_at nums dens k)
  pub rising : RisingIn nums dens used

-- three rooms with a table in their first places: there is a place more, the values can be compared and rise, and the counts can grow
pub record Fillable (used : ℕ) (R : Rooms) : Type 0 where
  pub nums-free : used < length R.nums
  pub dens-free : used < length R.dens
  pub counts-free : used < length R.counts
  pub short : (k : ℕ) → k < used → ShortDenominator (fraction_at R.nums R.dens k)
  pub rising : RisingIn R.nums R.dens used
  pub few : (k : ℕ) → k < used → get_or R.counts k 0 < 2 ^ 63

-- the lines after one set more of each of the values
abbrev pub count_all : List Fraction → List Line → List Line
count_all [] ls = ls
count_all (v ∷ vs) ls = count_all vs (one_more v ls)

-- the values of the sets that have the columns P and those of one of the sets Is
abbrev pub values_from : Bool → Plan → List ℕ → List ℕ → List (List ℕ) → List Fraction
values_from relative p rs P Is = map (λ I. value_in relative p rs (P ++ I)) Is

-- so many places hold T of every set of up to f - 1 columns, and there is a counter for each combination of f columns
pub record Enough (p : Plan) (f parts counters : ℕ) : Type 0 where
  pub wide : places (columns p + 1) (f - 1) ≤ parts
  pub few : parts < 2 ^ 32
  pub short : counters ≤ most_numbers
  pub each : (J : List ℕ) → Inside p J → length J ≤ f → product_of (level p) J ≤ counters

-- three rooms with the table of some values in their first places, and room for so many sets more
pub record Tallied (more used : ℕ) (R : Rooms) : Type 0 where
  pub done : List Fraction
  pub short : (v : Fraction) → Memᴰ v done → ShortDenominator v
  pub lines : lines_in R used ≡ table_of done
  pub nums-free : used + more ≤ length R.nums
  pub dens-free : used + more ≤ length R.dens
  pub counts-free : used + more ≤ length R.counts
  pub few : length done + more < 2 ^ 63

-- a walk over the sets of f columns: the columns P are taken, and `left` of the columns `rest` are to be taken
pub record Walking (p : Plan) (rs P rest : List ℕ) (left f product : ℕ) (numbers : List ℕ) (parts : List ℤ) : Type 0 where
  pub tabled : Tabled p rs
  pub some : 1 ≤ f
  pub begun : Begun p rs P rest left f product numbers
  pub whole : length P + left ≡ f
  pub each : (I : List ℕ) → Memᴰ I (choose left rest) → Memᴰ (P ++ I) (choose f (from 0 (columns p)))
  pub kept : Kept p rs (columns p + 1) (f - 1) parts

-- each room has n places at least
pub record Wide (n : ℕ) (R : Rooms) : Type 0 where
  pub nums-wide : n ≤ length R.nums
  pub dens-wide : n ≤ length R.dens
  pub counts-wide : n ≤ length R.counts

-- whether a room of 9³ places and 5⁴ counters are enough
unfoldable pub is_little : List ℕ → ℕ → Bool
is_little levels f = list_all (λ s. leb s 5) levels && (leb (length levels) 8 || leb f 3)

-- what a call for a table of some runs is given: they can be counted, and for a relative table their words stand beside them
pub record Ranked (p : Plan) (rs : List ℕ) (words : List ℤ) (relative : Bool) : Type 0 where
  pub tabled : Tabled p rs
  pub of-runs : relative ≡ true → words ≡ word_list p rs
