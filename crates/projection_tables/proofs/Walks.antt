-- Lines put into rooms and read again, and the table of all sets of a plan.
use Rattle.exact.proofs.Ground.{true, false, Bool, List, [], ◌∷◌, map, ◌++◌, Memᴰ, mem-of_map, ◌≡◌, ◌∙◌, sym, ap, refl, subst, ℕ, ◌≤◌, ◌<◌}
use Rattle.exact.proofs.Ground.{◌-◌, ◌+◌, arith, leb, leb→le, length, get_or, drop, length-append, length-map, length-drop, get_or-append}
use Rattle.exact.proofs.Ground.{drop-drop}
use lib.Seq.{drop-append-add}
use Rattle.exact.specs.Lists.{from, into, all}
use Rattle.exact.specs.Fractions.{smaller_fraction}
use Rattle.exact.specs.declared.fractions.Fraction.{Fraction}
use Rattle.exact.specs.declared.fractions.Verdict.{Verdict}
use Rattle.exact.specs.declared.fractions.Verdict.TheVariants.{Better, Worse, Equal}
use Rattle.exact.proofs.Lists.{map-cong-in, get_d_map}
use Rattle.exact.proofs.Numbers.{map-places, mem-from, from-mem}
use Rattle.exact.proofs.Tests.{all-mem}
use Rattle.rules.specs.Plan.{Plan, columns, most_columns}
use Rattle.sets.specs.Sets.{binom, sets_of}
use Rattle.sets.proofs.Parts.{choose-part}
use Rattle.sets.proofs.Pascal.{many-sets}
use Rattle.set_words.specs.SetWords.{value_in}
use Rattle.projection_tables.specs.Tables.{Line, line, pick, table_of, absolute_table, relative_table, table_in, one_more}
use Rattle.projection_tables.specs.Tables.{Rooms, line_at, lines_in, rooms_filled}
use Rattle.set_words.specs.Given.{SizeOf, Tabled, Projection}
use Rattle.set_words.proofs.Products.{part-projection}
use Rattle.set_words.proofs.Values.{value-short}
use Rattle.projection_tables.specs.Properties.{counted_in, IsTable}
use Rattle.projection_tables.proofs.Tables.{table_is}

-- ---- lines put into rooms, and read again

into-at : (g : Line → ℕ) (ls : List Line) (room : List ℕ) (k : ℕ) (d : Line) → k < length ls → get_or (into (map g ls) room) k 0 ≡ g (get_or ls k d)
into-at g ls room k d h =
    get_or-append (map g ls) (drop (length (map g ls)) room) 0 k (omega (arith, length-map ls g)) ∙ get_d_map g ls k d 0 h

pub filled_at : (ls : List Line) (R : Rooms) (k : ℕ) (d : Line) → k < length ls → line_at (rooms_filled ls R) k ≡ get_or ls k d
filled_at ls R k d h =
    let n = into-at (λ l. l.value.num) ls R.nums k d h in
    let m = into-at (λ l. l.value.den) ls R.dens k d h in
    let c = into-at (λ l. l.sets) ls R.counts k d h in
    rw (n, m, c)

pub lines-filled : (ls : List Line) (R : Rooms) → lines_in (rooms_filled ls R) (length ls) ≡ ls
lines-filled ls R =
    let d = line (record { num = 0; den = 0 }) 0 in
    map-cong-in (from 0 (length ls)) (λ k m. filled_at ls R k d (omega (arith, mem-from 0 (length ls) m))) ∙ map-places ls d

into-again : (xs ys room : List ℕ) → length xs ≤ length ys → into ys (into xs room) ≡ into ys room
into-again xs ys room h =
    let n : length xs + (length ys - length xs) ≡ length ys = omega arith in
    ap (λ l. ys ++ l)
    (ap (λ k. drop k (into xs room)) (sym n) ∙ drop-append-add xs (drop (length xs) room) (length ys - length xs)
    ∙ drop-drop (length ys - length xs) (length xs) room ∙ ap (λ k. drop k room) n)

pub filled-again : (ls ms : List Line) (R : Rooms) → length ls ≤ length ms → rooms_filled ms (rooms_filled ls R) ≡ rooms_filled ms R
filled-again ls ms R h =
    let again : (g : Line → ℕ) (room : List ℕ) → into (map g ms) (into (map g ls) room) ≡ into (map g ms) room
    = λ g room. into-again (map g ls) (map g ms) room (omega (arith, length-map ls g, length-map ms g)) in
    let n = again (λ l. l.value.num) R.nums in
    let m = again (λ l. l.value.den) R.dens in
    let c = again (λ l. l.sets) R.counts in
    (cc)

pub length-into : (xs room : List ℕ) → length xs ≤ length room → length (into xs room) ≡ length room
length-into xs room h = simp (length-append, length-drop) (omega arith)

pub one-more-grows : (v : Fraction) (ls : List Line) → length ls ≤ length (one_more v ls)
one-more-grows v [] = omega arith
one-more-grows v (l ∷ ls) = go (smaller_fraction l.value v) (one-more-grows v ls)
  where
    go : (r : Verdict) → length ls ≤ length (one_more v ls) →
        length (l ∷ ls) ≤ length (pick r (l ∷ one_more v ls) (line v 1 ∷ l ∷ ls) (line l.value (l.sets + 1) ∷ ls))
    go Better h = omega arith
    go Worse h = omega arith
    go Equal h = omega arith

-- ---- the sets of a plan

-- up to 4 of up to 24 columns
pub few-sets : (m f : ℕ) → m ≤ most_columns → SizeOf m f → binom m f ≤ 10_626
few-sets m f h z =
    let few : ℕ → ℕ → Bool = λ f m. leb (binom m f) 10_626 in
    let each-size = all-mem (λ f. all (from 0 25) (few f)) (from 1 4) tt f (from-mem f 1 4 z.low (omega (arith, z.high))) in
    leb→le (binom m f) 10_626 (all-mem (few f) (from 0 25) each-size m (from-mem m 0 25 (omega arith) (omega arith)))

module _ (relative : Bool) (p : Plan) (rs : List ℕ) (f : ℕ) (G : Tabled p rs) (z : SizeOf (columns p) f) where
  -- the table that is asked for is that of the values that are asked for
  pub asked : (b : Bool) → table_of (map (value_in b p rs) (sets_of (columns p) f)) ≡ table_in b p rs f
  unfolding absolute_table relative_table
  asked true = refl
  asked false = refl

  -- what holds of the value of every set of columns holds of each of the values
  pub each-value : (Q : Fraction → Type 0) → ((I : List ℕ) → Projection p I → 1 ≤ length I → Q (value_in relative p rs I)) →
      (x : Fraction) → Memᴰ x (map (value_in relative p rs) (sets_of (columns p) f)) → Q x
  each-value Q h x m =
      let (I, k, e) = mem-of_map (value_in relative p rs) (sets_of (columns p) f) m in
      let (part, l) = choose-part f (from 0 (columns p)) I k in
      subst Q e (h I (part-projection p G.sound.level-low G.sound.small I part) (omega (arith, z.low)))

  -- what document 01 says of the table: strictly rising, none made up, none lost, each count that of its value's sets
  pub table-right : IsTable (map (value_in relative p rs) (sets_of (columns p) f)) (table_in relative p rs f)
  table-right =
      subst (IsTable (map (value_in relative p rs) (sets_of (columns p) f))) (asked relative) (table_is (map (value_in relative p rs) (sets_of (columns p) f))
      (each-value (λ x. 0 < x.den) (λ I P some. (value-short p rs I G P some relative).above_zero)))

  pub sets-counted : counted_in (table_in relative p rs f) ≡ binom (columns p) f
  sets-counted = table-right.counted ∙ length-map (sets_of (columns p) f) (value_in relative p rs) ∙ many-sets f 0 (columns p)
