-- Document 01, "Strength, resolution, projections": projection frequency tables (source document 000), and three lent rooms.
use Rattle.std.specs.Prelude.{Bool, cond, Result, List, [], ◌∷◌, map, ℕ, ◌+◌, min, length, get_or}
use Rattle.exact.specs.Lists.{from, count, into}
use Rattle.exact.specs.Fractions.{smaller_fraction, is_equal}
use Rattle.exact.specs.declared.fractions.Fraction.{Fraction}
use Rattle.exact.specs.declared.fractions.Verdict.{Verdict}
use Rattle.exact.specs.declared.fractions.Verdict.TheVariants.{Better, Worse, Equal}
use Rattle.rules.specs.Plan.{Plan, columns, level, entry, every_column}
use Rattle.rules.specs.declared.Refusal.{Refusal}
use Rattle.rules.specs.Refusals.{Check, refusal, answered, unless, bad_size, past_resolution, bad_room}
use Rattle.sets.specs.Sets.{choose}
use Rattle.set_words.specs.SetWords.{value_of, relative_of}
use Rattle.resolution.specs.Resolution.{resolution_in}

-- ---- a table: the distinct values, rising, each with its count
-- (`IsTable` of Properties says it without the sort below, and there is only one such table: `table-only`)

-- by a verdict: what goes with better, with worse, and with equal
abbrev pub pick : {A : Type 0} → Verdict → A → A → A → A
pick Better a b c = a
pick Worse a b c = b
pick Equal a b c = c

-- a value put in its place among rising values, unless it is there already
abbrev pub insert : Fraction → List Fraction → List Fraction
insert v [] = v ∷ []
insert v (w ∷ ws) = pick (smaller_fraction w v) (w ∷ insert v ws) (v ∷ w ∷ ws) (w ∷ ws)

-- values put in their places one after the other
abbrev pub insert_all : List Fraction → List Fraction → List Fraction
insert_all ds [] = ds
insert_all ds (v ∷ vs) = insert_all (insert v ds) vs

-- the distinct values, rising
abbrev pub distinct : List Fraction → List Fraction
distinct vs = insert_all [] vs

-- how many of the values equal v
abbrev pub times : List Fraction → Fraction → ℕ
times vs v = count (λ w. is_equal (smaller_fraction v w)) vs

-- a line of a table: a value and how many sets have it
pub record Line : Type 0 where
  pub value : Fraction
  pub sets : ℕ

abbrev pub line : Fraction → ℕ → Line
line v k = record { value = v; sets = k }

unfoldable pub table_of : List Fraction → List Line
table_of vs = map (λ v. line v (times vs v)) (distinct vs)

-- the table with one set of value v more: its line's count is one higher, or a line of count 1 stands in its place
abbrev pub one_more : Fraction → List Line → List Line
one_more v [] = line v 1 ∷ []
one_more v (l ∷ ls) = pick (smaller_fraction l.value v) (l ∷ one_more v ls) (line v 1 ∷ l ∷ ls) (line l.value (l.sets + 1) ∷ ls)

module _ {C : Type 0} where
  -- the table for size f of what `value` gives for a set
  abbrev pub frequencies : (List C → Fraction) → List C → ℕ → List Line
  frequencies value cols f = table_of (map value (choose f cols))

module _ {R C : Type 0} (level : C → ℕ) (entry : R → C → ℕ) (rs : List R) (cols : List C) where
  -- the table for size f, and the relative table
  unfoldable pub absolute_table : ℕ → List Line
  absolute_table f = frequencies (value_of level entry rs) cols f

  unfoldable pub relative_table : ℕ → List Line
  relative_table f = frequencies (relative_of level entry rs) cols f

-- the table that is asked for, relative or not
abbrev pub table_in : Bool → Plan → List ℕ → ℕ → List Line
table_in relative p rs f =
    cond relative (relative_table (level p) (entry p) rs (every_column p) f) (absolute_table (level p) (entry p) rs (every_column p) f)

-- ---- three lent rooms: numerators, denominators, counts

pub record Rooms : Type 0 where
  pub nums : List ℕ
  pub dens : List ℕ
  pub counts : List ℕ

abbrev pub rooms : List ℕ → List ℕ → List ℕ → Rooms
rooms nums dens counts = record { nums = nums; dens = dens; counts = counts }

-- the value and the line that stand at place k of the rooms, and the lines of the first k places
abbrev pub fraction_at : List ℕ → List ℕ → ℕ → Fraction
fraction_at nums dens k = record { num = get_or nums k 0; den = get_or dens k 0 }

abbrev pub line_at : Rooms → ℕ → Line
line_at rooms k = line (fraction_at rooms.nums rooms.dens k) (get_or rooms.counts k 0)

abbrev pub lines_in : Rooms → ℕ → List Line
lines_in rooms k = map (line_at rooms) (from 0 k)

-- the rooms after the lines were put into them: entries past the last stay unchanged
abbrev pub rooms_filled : List Line → Rooms → Rooms
rooms_filled lines rooms = record {
  nums = into (map (λ l. l.value.num) lines) rooms.nums;
  dens = into (map (λ l. l.value.den) lines) rooms.dens;
  counts = into (map (λ l. l.sets) lines) rooms.counts;
}

abbrev pub shortest : Rooms → ℕ
shortest rooms = min (length rooms.nums) (min (length rooms.dens) (length rooms.counts))

-- 7, exactly when the distinct values outnumber the shortest room
abbrev pub bad_rooms : List Line → Rooms → Check
bad_rooms lines rooms = bad_room (length lines) (shortest rooms)

-- the rooms beside a refusal, which leaves every room as it was
abbrev pub rooms_beside : List Line → Rooms → Refusal → Rooms
rooms_beside lines rooms r = unless r rooms (rooms_filled lines rooms)

-- ---- of some runs of a plan

module _ (p : Plan) (rs : List ℕ) where
  -- the checks of a call for the table of size f: 6, then 16 of a relative table where f is above R, and 7 last
  abbrev pub table_checks : Bool → ℕ → Rooms → List Check
  table_checks relative f rooms =
      bad_size (columns p) f ∷ past_resolution relative (resolution_in p rs) f ∷ bad_rooms (table_in relative p rs f) rooms ∷ []

  -- the answer, which is the number of lines, and the rooms afterwards
  unfoldable pub table_answer : (List Check → List Check) → Bool → ℕ → Rooms → Result ℕ Refusal
  table_answer start relative f rooms = answered (refusal (start (table_checks relative f rooms))) (length (table_in relative p rs f))

  unfoldable pub table_rooms : (List Check → List Check) → Bool → ℕ → Rooms → Rooms
  table_rooms start relative f rooms = rooms_beside (table_in relative p rs f) rooms (refusal (start (table_checks relative f rooms)))
