-- `projection_tables::routines::walk` meets its contract. It calls itself with one column less left: that is its measure.
use Rattle.exact.proofs.Ground.{List, [], ◌∷◌, ◌++◌, Memᴰ, ◌≡◌, ◌∙◌, sym, ap, refl, subst, ℕ, ◌≤◌, ◌<◌, ◌-◌, ◌+◌, ◌*◌, arith, add-one, length, get_or, take, drop}
use Rattle.exact.proofs.Ground.{set, length-drop, length-set, length-take-le, mem-append_left, ap₂}
use lib.Seq.{take-suc-set}
use borrow.Fn.Kinds.{In}
use borrow.Fn.PlainCycle.{Measures, is, falls, and}
use Rattle.exact.specs.Fractions.{ShortDenominator}
use Rattle.exact.specs.declared.fractions.Fraction.{Fraction}
use Rattle.exact.proofs.Numbers.{mul-below}
use Rattle.rules.specs.Plan.{Plan, plan, level, columns}
use Rattle.sets.specs.Sets.{choose}
use Rattle.counts.specs.Numbered.{most_numbers}
use Rattle.parts.specs.Parts.{longer}
use Rattle.parts.proofs.OverParts.{from_place, longer-front, longer-held}
use Rattle.parts.proofs.longer.Reads as one-longer
use Rattle.part_sums.specs.Counters.{counters_of}
use Rattle.part_sums.specs.Stored.{numbers_in}
use Rattle.part_sums.specs.Given.{Counting}
use Rattle.part_sums.proofs.Counting.{counters-long}
use Rattle.part_sums.proofs.Filling.{first-inside, more-enough, longer-is, longer-small, numbers-long, column-long, column-start, counting-again}
use Rattle.projection_tables.specs.Tables.{Rooms, rooms, lines_in, rooms_filled}
use Rattle.projection_tables.specs.Given.{count_all, values_from, Tallied, Walking}
use Rattle.projection_tables.proofs.SetWalk.{tallied-same, tallied-all, filled-twice, tallied-fillable, values-none, values-leaf, values-step, values-short}
use Rattle.projection_tables.proofs.SetWalk.{walking-leaf, walking-with, walking-without, walking-as, tallied-as, tallied-fewer, count-as, one-leaf, step-many, values-many, unchanged}
use Rattle.projection_tables.proofs.routines.count_set.Reads as count_set
use Rattle.projection_tables.proofs.routines.walk.Reads as reads
use Rattle.projection_tables.proofs.routines.walk.Kinds.{ps}
use Rattle.projection_tables.proofs.routines.+walk.Lts-walk as lts
use Rattle.projection_tables.proofs.routines.+walk.{statement}
use Rattle.projection_tables.proofs.routines.+walk.Tie.{close}

abbrev μ : Measures 12 ps ℕ
μ κs a = length a.1.1.1.1.1.1.1.0.now

-- what the function is given at the measure t, and what a call of itself asks below t
abbrev given : ℕ → In 12 ps
given t = and 12 ps (is 12 ps μ t) reads.Pre

abbrev below : ℕ → In 12 ps
below t = and 12 ps (falls 12 ps ◌<◌ μ t) reads.Pre

abbrev claims : ℕ → lts.Claims
claims t = (
  count_set.Asked,
  count_set.Learnt,
  one-longer.Asked,
  one-longer.Learnt,
  below t,
  reads.Post,
)

module _ (t : ℕ) (s : lts.Start (claims t) (given t) reads.Post) where
  abbrev p : Plan
  p = plan s.args.levels.now s.args.table.now

  abbrev rs : List ℕ
  rs = s.args.runs.now

  abbrev ds : List ℕ
  ds = s.args.digits.now

  abbrev rest : List ℕ
  rest = s.args.rest.now

  abbrev P : List ℕ
  P = take s.args.depth s.args.set

  abbrev R : Rooms
  R = rooms s.args.nums.now s.args.dens.now s.args.counts.now

  abbrev values : List Fraction
  values = values_from s.args.relative p rs P (choose s.args.left rest)

  counting : Counting p rs s.args.f ds s.args.all.now s.args.counters.now
  counting = s.requires.1.0

  walking : Walking p rs P rest s.args.left s.args.f s.args.product s.args.numbers.now s.args.parts.now
  walking = s.requires.1.1.0.0

  depth_is : s.args.depth + s.args.left ≡ s.args.f
  depth_is = s.requires.1.1.0.1

  set_long : length s.args.set ≡ 4
  set_long = s.requires.1.1.0.2

  tallied : Tallied (length (choose s.args.left rest)) s.args.used R
  tallied = s.requires.1.1.1

  short : (v : Fraction) → Memᴰ v values → ShortDenominator v
  short = values-short p rs P rest s.args.left s.args.f s.args.product s.args.numbers.now s.args.parts.now walking s.args.relative

  -- there is room for the values of all sets
  held : Tallied (length values + 0) s.args.used R
  held =
      tallied-as s.args.used R
      (let e : length values + 0 ≡ length (choose s.args.left rest) = omega (arith, values-many s.args.relative p rs P (choose s.args.left rest)) in e) tallied

-- ---- the leaf

array-share-prefix-set : (t : ℕ) → lts.Need-slice_bounds-set-end (claims t) (given t) reads.Post
array-share-prefix-set t c = let s = c.before.before.before.before.before.before.before.before.before.before.before.before in omega (arith, set_long t s, depth_is t s, (counting t s).size)

slice-aggregate-count-set : (t : ℕ) → lts.Need-slice_bounds-count_set-end (claims t) (given t) reads.Post
slice-aggregate-count-set t c =
    let s = c.before.before.before.before.before.before.before.before.before.before.before.before.before in
    sym (length-take-le s.args.depth s.args.set (let h : s.args.depth ≤ length s.args.set = omega (arith, set_long t s, depth_is t s, (counting t s).size) in h))

count-set-requires : (t : ℕ) → lts.Need-count_set-requires (claims t) (given t) reads.Post
count-set-requires t c κs =
    let h = c.before.before.before.before.before in
    let s = h.before.before.before.before.before.before.before.before.before.before.before.before in (
      (counting t s, (walking t s).tabled),
      (
        walking-leaf (p t s) (rs t s) (P t s) (rest t s) s.args.left s.args.f s.args.product s.args.numbers.now s.args.parts.now (walking t s) h.if-left-eq0.true,
        tallied-fillable (length (choose s.args.left (rest t s))) s.args.used (R t s) (one-leaf (rest t s) s.args.left h.if-left-eq0.true) (tallied t s),
      ),
    )

module _ (t : ℕ) (c : lts.After-count_set (claims t) (given t) reads.Post) where
  abbrev leaf-start : lts.Start (claims t) (given t) reads.Post
  leaf-start = c.before.before.before.before.before.before.before.before.before.before.before.before.before.before.before.before.before.before

  abbrev left-rooms : Rooms
  left-rooms = let l = c.count_set in rooms l.new.nums l.new.dens l.new.counts

  leaf-counted : let s = leaf-start in
      (c.count_set.result ≡ length (count_all (values t s) (lines_in (R t s) s.args.used))) × (left-rooms ≡ rooms_filled (count_all (values t s) (lines_in (R t s) s.args.used)) (R t s))
  leaf-counted =
      let s = leaf-start in
      count-as s.args.used c.count_set.result (R t s) left-rooms
      (sym (values-leaf s.args.relative (p t s) (rs t s) (P t s) (rest t s) s.args.left c.before.before.before.before.before.before.if-left-eq0.true)) (c.count_set.ensures.0, c.count_set.ensures.1.0)

  leaf-same : let S = leaf-start in
      (length left-rooms.nums ≡ length (R t S).nums) × (length left-rooms.dens ≡ length (R t S).dens) × (length left-rooms.counts ≡ length (R t S).counts)
  leaf-same = let s = leaf-start in tallied-same 0 s.args.used (R t s) (values t s) (short t s) (held t s) left-rooms leaf-counted.1

same_length : (t : ℕ) → lts.Need-shape_of-counters-then-left-eq0 (claims t) (given t) reads.Post
same_length t c = let d = c.before.before.before.before.before.before.before.before in ap length d.count_set.ensures.1.1 ∙ counters-long (length (leaf-start t d).args.counters.now) []

same-length-2 : (t : ℕ) → lts.Need-shape_of-nums-then-left-eq0 (claims t) (given t) reads.Post
same-length-2 t c = (leaf-same t c.before.before.before.before.before.before.before.before).0

same-length-3 : (t : ℕ) → lts.Need-shape_of-dens-then-left-eq0 (claims t) (given t) reads.Post
same-length-3 t c = (leaf-same t c.before.before.before.before.before.before.before.before).1

same-length-4 : (t : ℕ) → lts.Need-shape_of-counts-then-left-eq0 (claims t) (given t) reads.Post
same-length-4 t c = (leaf-same t c.before.before.before.before.before.before.before.before).2

returns : (t : ℕ) → lts.Need-returns-then-left-eq0 (claims t) (given t) reads.Post
returns t c = let d = c.before.before.before.before.before.before.before.before in ((leaf-counted t d).0, ((leaf-counted t d).1, d.count_set.ensures.1.1))

-- ---- too few columns

returns-2 : (t : ℕ) → lts.Need-returns-then-rest-left (claims t) (given t) reads.Post
returns-2 t c =
    let s = c.before.before.before.before.before.before.before.before.before.before.before.before.before in
    let none : values t s ≡ [] = ap (values_from s.args.relative (p t s) (rs t s) (P t s)) (values-none s.args.relative (p t s) (rs t s) (P t s) (rest t s) s.args.left c.if-rest-left.true) in
    let (a, b) = count-as s.args.used s.args.used (R t s) (R t s) (sym none) (unchanged (length (choose s.args.left (rest t s))) s.args.used (R t s) (tallied t s)) in
    (a, (b, (counting t s).cleared))

-- ---- the first column, taken and not

module _ (t : ℕ) (e : lts.Else-rest-left (claims t) (given t) reads.Post) where
  abbrev s : lts.Start (claims t) (given t) reads.Post
  s = e.before.before.before.before.before.before.before.before.before.before.before.before.before

  some : 0 < s.args.left
  some = let q = e.before.if-left-eq0.false in omega arith

  enough : s.args.left ≤ length (rest t s)
  enough = let q = e.if-rest-left.false in omega arith

  there : 0 < length (rest t s)
  there = omega (arith, some, enough)

  abbrev i : ℕ
  i = get_or (rest t s) 0 0

  abbrev more : ℕ
  more = s.args.product * level (p t s) i

  abbrev column : List ℕ
  column = take (length (ds t s) - i * length (rs t s)) (drop (i * length (rs t s)) (ds t s))

  column-is : column ≡ drop (i * length (rs t s)) (ds t s)
  column-is = from_place (ds t s) (i * length (rs t s))

  inside : i < columns (p t s)
  inside = first-inside (p t s) (rs t s) s.args.f (ds t s) s.args.all.now s.args.counters.now (counting t s) (P t s) (rest t s) s.args.left s.args.product s.args.numbers.now (walking t s).begun some there

  most : more ≤ most_numbers
  most = omega (arith, more-enough (p t s) (rs t s) s.args.f (ds t s) s.args.all.now s.args.counters.now (counting t s) (P t s) (rest t s) s.args.left s.args.product s.args.numbers.now (walking t s).begun some there, (counting t s).short)

  start : i * length (rs t s) ≤ length (ds t s)
  start = column-start (p t s) (rs t s) s.args.f (ds t s) s.args.all.now s.args.counters.now (counting t s) (P t s) (rest t s) s.args.left s.args.product s.args.numbers.now (walking t s).begun some there

  long : length s.args.numbers.now ≡ length (rs t s)
  long = numbers-long (p t s) (rs t s) s.args.f (ds t s) s.args.all.now s.args.counters.now (counting t s) (P t s) (rest t s) s.args.left s.args.product s.args.numbers.now (walking t s).begun some there

  wide : length s.args.numbers.now ≤ length (drop (i * length (rs t s)) (ds t s))
  wide = column-long (p t s) (rs t s) s.args.f (ds t s) s.args.all.now s.args.counters.now (counting t s) (P t s) (rest t s) s.args.left s.args.product s.args.numbers.now (walking t s).begun some there

  shallow : s.args.depth < length s.args.set
  shallow = omega (arith, set_long t s, depth_is t s, (counting t s).size, some)

  -- the columns taken, with the first of those left
  with-set : take (s.args.depth + 1) (set s.args.set s.args.depth i) ≡ P t s ++ i ∷ []
  with-set = rw (add-one s.args.depth) (take-suc-set s.args.set s.args.depth i shallow)

  others : take (length (rest t s) - 1) (drop 1 (rest t s)) ≡ drop 1 (rest t s)
  others = from_place (rest t s) 1

  fewer : length (take (length (rest t s) - 1) (drop 1 (rest t s))) < t
  fewer = rw others (omega (arith, length-drop 1 (rest t s), s.requires.0, there))

  -- the values of the sets with the column, and of those without it
  abbrev first-values : List Fraction
  first-values = values_from s.args.relative (p t s) (rs t s) (P t s ++ i ∷ []) (choose (s.args.left - 1) (drop 1 (rest t s)))

  abbrev later-values : List Fraction
  later-values = values_from s.args.relative (p t s) (rs t s) (P t s) (choose s.args.left (drop 1 (rest t s)))

  all-values : first-values ++ later-values ≡ values t s
  all-values = values-step s.args.relative (p t s) (rs t s) (P t s) (rest t s) s.args.left some enough

  first-held : Tallied (length first-values + length (choose s.args.left (drop 1 (rest t s)))) s.args.used (R t s)
  first-held =
      tallied-as s.args.used (R t s)
      (ap (λ n. n + length (choose s.args.left (drop 1 (rest t s)))) (values-many s.args.relative (p t s) (rs t s) (P t s ++ i ∷ []) (choose (s.args.left - 1) (drop 1 (rest t s))))
      ∙ sym (step-many (rest t s) s.args.left some enough)) (tallied t s)

  first_short : (v : Fraction) → Memᴰ v first-values → ShortDenominator v
  first_short v m = short t s v (subst (λ vs. Memᴰ v vs) all-values (mem-append_left later-values m))

shared-slice-read-i : (t : ℕ) → lts.Need-bounds-rest-0 (claims t) (given t) reads.Post
shared-slice-read-i t c = there t c.before

shared-slice-read-longer : (t : ℕ) → lts.Need-bounds-levels-i (claims t) (given t) reads.Post
shared-slice-read-longer t c = inside t c.before.before

mul-longer : (t : ℕ) → lts.Need-overflow_mul-i (claims t) (given t) reads.Post
mul-longer t c = let e = c.before.before in omega (arith, mul-below (i t e) (length (rs t (s t e))) 24 256 (omega (arith, inside t e, (counting t (s t e)).sound.columns-high)) (counting t (s t e)).sound.few)

sub-longer : (t : ℕ) → lts.Need-slice_bounds-longer-count (claims t) (given t) reads.Post
sub-longer t c = start t c.before.before

part-longer-start : (t : ℕ) → lts.Need-slice_bounds-longer-start (claims t) (given t) reads.Post
part-longer-start t c = start t c.before.before

part-longer-end : (t : ℕ) → lts.Need-slice_bounds-longer-end (claims t) (given t) reads.Post
part-longer-end t c = omega arith

longer-requires : (t : ℕ) → lts.Need-longer-taken-requires (claims t) (given t) reads.Post
longer-requires t c κs =
    let e = c.before.before.before in
    let s = s t e in (
      (omega (arith, long t e, (counting t s).sound.few), rw (column-is t e) (wide t e)),
      subst (λ ds. (k : ℕ) → k < length s.args.numbers.now → get_or s.args.numbers.now k 0 * level (p t s) (i t e) + get_or ds k 0 < most_numbers) (sym (column-is t e))
          (longer-small (p t s) (rs t s) s.args.f (ds t s) s.args.all.now s.args.counters.now (counting t s) (P t s) (rest t s) s.args.left s.args.product s.args.numbers.now (walking t s).begun (some t e) (there t e)),
    )

-- the runs' numbers with the digit of that column
module _ (t : ℕ) (c : lts.After-longer-taken (claims t) (given t) reads.Post) where
  abbrev e : lts.Else-rest-left (claims t) (given t) reads.Post
  e = c.before.before.before.before

  abbrev b : lts.Start (claims t) (given t) reads.Post
  b = s t e

  abbrev n : ℕ
  n = length (rs t b)

  taken-held : n ≤ length c.longer-taken.result
  taken-held = omega (arith, long t e, longer-held (level (p t b) (i t e)) b.args.numbers.now (column t e) c.longer-taken.result c.longer-taken.ensures)

  lent : take n c.longer-taken.result ≡ numbers_in (p t b) (rs t b) (P t b ++ i t e ∷ [])
  lent =
      ap (λ k. take k c.longer-taken.result) (sym (long t e))
      ∙ longer-front (level (p t b) (i t e)) b.args.numbers.now (column t e) c.longer-taken.result c.longer-taken.ensures
      ∙ ap (longer (level (p t b) (i t e)) b.args.numbers.now) (column-is t e)
      ∙ longer-is (p t b) (rs t b) b.args.f (ds t b) b.args.all.now b.args.counters.now (counting t b) (P t b) (rest t b) b.args.left b.args.product b.args.numbers.now (walking t b).begun (some t e) (there t e)

shared-slice-read-more : (t : ℕ) → lts.Need-bounds-levels-i-2 (claims t) (given t) reads.Post
shared-slice-read-more t c = inside t (e t c.before)

cast-more : (t : ℕ) → lts.Need-overflow_cast-more (claims t) (given t) reads.Post
cast-more t c = let f = e t c.before in omega (arith, (counting t (s t f)).sound.level-high (i t f) (inside t f))

mul-more : (t : ℕ) → lts.Need-overflow_mul-more (claims t) (given t) reads.Post
mul-more t c = omega (arith, most t (e t c.before))

mul-with : (t : ℕ) → lts.Need-offset_bounds-with-depth (claims t) (given t) reads.Post
mul-with t c = let f = e t c.before in omega (arith, shallow t f, set_long t (s t f))

array-write-with : (t : ℕ) → lts.Need-bounds-with-depth (claims t) (given t) reads.Post
array-write-with t c = let f = e t c.before in omega (arith, shallow t f, set_long t (s t f))

sub-others : (t : ℕ) → lts.Need-slice_bounds-others-count (claims t) (given t) reads.Post
sub-others t c = there t (e t c.before)

part-others-start : (t : ℕ) → lts.Need-slice_bounds-others-start (claims t) (given t) reads.Post
part-others-start t c = there t (e t c.before)

part-others-end : (t : ℕ) → lts.Need-slice_bounds-others-end (claims t) (given t) reads.Post
part-others-end t c = omega arith

sub-walk : (t : ℕ) → lts.Need-overflow_sub-left (claims t) (given t) reads.Post
sub-walk t c = some t (e t c.before.before)

add-walk : (t : ℕ) → lts.Need-overflow_add-depth (claims t) (given t) reads.Post
add-walk t c = let f = e t c.before.before in omega (arith, shallow t f, set_long t (s t f))

array-share-prefix-taken : (t : ℕ) → lts.Need-slice_bounds-taken-end (claims t) (given t) reads.Post
array-share-prefix-taken t c = taken-held t c.before.before

slice-aggregate-walk : (t : ℕ) → lts.Need-slice_bounds-walk-end (claims t) (given t) reads.Post
slice-aggregate-walk t c = let o = c.before.before.before in sym (length-take-le (n t o) o.longer-taken.result (taken-held t o))

walk-requires : (t : ℕ) → lts.Need-walk-passed-requires (claims t) (given t) reads.Post
walk-requires t c κs =
    let o = c.before.before.before.before.before.before.before in
    let f = e t o in
    let s = s t f in (
      fewer t f,
      (
        counting t s,
        (
          (
            walking-as (p t s) (rs t s) (s.args.left - 1) s.args.f (more t f) s.args.parts.now (with-set t f) (others t f) refl
                (walking-with (p t s) (rs t s) s.args.f (ds t s) s.args.all.now s.args.counters.now (counting t s) (P t s) (rest t s) s.args.left s.args.product s.args.numbers.now s.args.parts.now (walking t s) (some t f) (enough t f) (take (n t o) o.longer-taken.result) (lent t o)),
            omega (arith, depth_is t s, some t f),
            length-set s.args.set s.args.depth (i t f) ∙ set_long t s,
          ),
          tallied-fewer s.args.used (R t s)
              (let h : length (choose (s.args.left - 1) (take (length (rest t s) - 1) (drop 1 (rest t s)))) ≤ length (choose s.args.left (rest t s))
              = omega (arith, ap (λ I. length (choose (s.args.left - 1) I)) (others t f), step-many (rest t s) s.args.left (some t f) (enough t f)) in h) (tallied t s),
        ),
      ),
    )

-- after the sets with the column
module _ (t : ℕ) (w : lts.After-walk-passed (claims t) (given t) reads.Post) where
  abbrev o : lts.After-longer-taken (claims t) (given t) reads.Post
  o = w.before.before.before.before.before.before.before.before

  abbrev f : lts.Else-rest-left (claims t) (given t) reads.Post
  f = e t o

  abbrev z : lts.Start (claims t) (given t) reads.Post
  z = s t f

  abbrev passed : Rooms
  passed = let l = w.walk-passed in rooms l.new.nums l.new.dens l.new.counts

  first_counted : (w.walk-passed.result ≡ length (count_all (first-values t f) (lines_in (R t z) z.args.used)))
      × (passed ≡ rooms_filled (count_all (first-values t f) (lines_in (R t z) z.args.used)) (R t z))
  first_counted =
      count-as z.args.used w.walk-passed.result (R t z) passed
      (ap₂ (λ P I. values_from z.args.relative (p t z) (rs t z) P (choose (z.args.left - 1) I)) (with-set t f) (others t f))
      (w.walk-passed.ensures.0, w.walk-passed.ensures.1.0)

  passed-tallied : Tallied (length (choose z.args.left (drop 1 (rest t z)))) w.walk-passed.result passed
  passed-tallied =
      tallied-all (length (choose z.args.left (drop 1 (rest t z)))) z.args.used (R t z) (first-values t f) (first_short t f) (first-held t f)
      w.walk-passed.result passed first_counted.0 first_counted.1

  again : Counting (p t z) (rs t z) z.args.f (ds t z) z.args.all.now w.walk-passed.new.counters
  again = counting-again (p t z) (rs t z) z.args.f (ds t z) z.args.all.now z.args.counters.now w.walk-passed.new.counters (counting t z) w.walk-passed.ensures.1.1

walk-requires-2 : (t : ℕ) → lts.Need-walk-requires (claims t) (given t) reads.Post
walk-requires-2 t c κs =
    let w = c.before.before.before.before.before.before.before.before.before.before.before.before in
    let f = f t w in
    let s = s t f in (
      fewer t f,
      (
        again t w,
        (
          (
            walking-as (p t s) (rs t s) s.args.left s.args.f s.args.product s.args.parts.now refl (others t f) refl (walking-without (p t s) (rs t s) s.args.f (ds t s) s.args.all.now s.args.counters.now (counting t s) (P t s) (rest t s) s.args.left s.args.product s.args.numbers.now s.args.parts.now (walking t s) (some t f) (enough t f)),
            depth_is t s,
            set_long t s,
          ),
          tallied-as w.walk-passed.result (passed t w) (ap (λ I. length (choose s.args.left I)) (others t f)) (passed-tallied t w),
        ),
      ),
    )

module _ (t : ℕ) (c : lts.After-walk (claims t) (given t) reads.Post) where
  abbrev v : lts.After-walk-passed (claims t) (given t) reads.Post
  v = c.before.before.before.before.before.before.before.before.before.before.before.before.before

  abbrev y : lts.Start (claims t) (given t) reads.Post
  y = z t v

  abbrev ended : Rooms
  ended = let l = c.walk in rooms l.new.nums l.new.dens l.new.counts

  counted : (c.walk.result ≡ length (count_all (values t y) (lines_in (R t y) y.args.used))) × (ended ≡ rooms_filled (count_all (values t y) (lines_in (R t y) y.args.used)) (R t y))
  counted =
      let g = f t v in
      let later = count-as v.walk-passed.result c.walk.result (passed t v) ended
      (ap (λ I. values_from y.args.relative (p t y) (rs t y) (P t y) (choose y.args.left I)) (others t g)) (c.walk.ensures.0, c.walk.ensures.1.0) in
      count-as y.args.used c.walk.result (R t y) ended (all-values t g)
      (filled-twice (first-values t g) (later-values t g) y.args.used v.walk-passed.result c.walk.result (R t y) (passed t v) ended
      (first_counted t v).0 (first_counted t v).1 later.0 later.1)

  ended_same : (length ended.nums ≡ length (R t y).nums) × (length ended.dens ≡ length (R t y).dens) × (length ended.counts ≡ length (R t y).counts)
  ended_same = tallied-same 0 y.args.used (R t y) (values t y) (short t y) (held t y) ended counted.1

  as_many : length v.walk-passed.new.counters ≡ length y.args.counters.now
  as_many = ap length v.walk-passed.ensures.1.1 ∙ counters-long (length y.args.counters.now) []

same-length-5 : (t : ℕ) → lts.Need-shape_of-counters (claims t) (given t) reads.Post
same-length-5 t c = let d = c.before.before.before.before.before.before.before.before in ap length d.walk.ensures.1.1 ∙ counters-long (length (v t d).walk-passed.new.counters) [] ∙ as_many t d

same-length-6 : (t : ℕ) → lts.Need-shape_of-nums (claims t) (given t) reads.Post
same-length-6 t c = (ended_same t c.before.before.before.before.before.before.before.before).0

same-length-7 : (t : ℕ) → lts.Need-shape_of-dens (claims t) (given t) reads.Post
same-length-7 t c = (ended_same t c.before.before.before.before.before.before.before.before).1

same-length-8 : (t : ℕ) → lts.Need-shape_of-counts (claims t) (given t) reads.Post
same-length-8 t c = (ended_same t c.before.before.before.before.before.before.before.before).2

returns-3 : (t : ℕ) → lts.Need-returns (claims t) (given t) reads.Post
returns-3 t c = let d = c.before.before.before.before.before.before.before.before in ((counted t d).0, ((counted t d).1, d.walk.ensures.1.1 ∙ ap (λ n. counters_of n []) (as_many t d)))

pub +walk_spec : {M : Type 1} → statement M
+walk_spec =
    close μ (λ t.
    lts.spec (claims t) (given t) reads.Post
    (array-share-prefix-set t)
    (slice-aggregate-count-set t)
    (count-set-requires t)
    (same_length t)
    (same-length-2 t)
    (same-length-3 t)
    (same-length-4 t)
    (returns t)
    (returns-2 t)
    (shared-slice-read-i t)
    (shared-slice-read-longer t)
    (mul-longer t)
    (sub-longer t)
    (part-longer-start t)
    (part-longer-end t)
    (longer-requires t)
    (shared-slice-read-more t)
    (cast-more t)
    (mul-more t)
    (mul-with t)
    (array-write-with t)
    (sub-others t)
    (part-others-start t)
    (part-others-end t)
    (sub-walk t)
    (add-walk t)
    (array-share-prefix-taken t)
    (slice-aggregate-walk t)
    (walk-requires t)
    (walk-requires-2 t)
    (same-length-5 t)
    (same-length-6 t)
    (same-length-7 t)
    (same-length-8 t)
    (returns-3 t))
