-- A walk over the sets by `choose`'s own recursion: the table after some values more, and what the walk is given with a column and without it.
use Rattle.exact.proofs.Ground.{true, false, Bool, List, [], ◌∷◌, map, ◌++◌, Memᴰ, mem-head, mem-tail, mem-of_map, mem-map, mem-append_left}
use Rattle.exact.proofs.Ground.{mem-append_right, mem-append_cases, append_assoc, append-nil, ⊎_elim, ◌⊎◌, inl, inr, ◌≡◌, ◌∙◌, sym, ap, ap₂, refl}
use Rattle.exact.proofs.Ground.{subst, ℕ, ◌≤◌, ◌<◌, ◌-◌, ◌+◌, ◌*◌}
use Rattle.exact.proofs.Ground.{◌^◌, suc, zero, le_trans, arith, ℤ, length, get_or, drop, take, length-append, length-map, take-append-drop}
use Rattle.exact.proofs.Ground.{mem-not_nil, replicate, length-replicate, set, pos}
use native.Mathlib.Nat.{min-le_left, min-le_right}
use Rattle.exact.proofs.Ground.{T, leb, leb→le, ◌||◌, min}
use Rattle.exact.proofs.Tests.{both}
use Rattle.std.specs.List.{list_all}
use Rattle.exact.specs.Lists.{from, into, filled_to}
use Rattle.exact.specs.Fractions.{smaller_fraction, is_equal, zero_fraction, ShortDenominator}
use Rattle.exact.specs.declared.fractions.Fraction.{Fraction}
use Rattle.exact.specs.declared.fractions.Verdict.{Verdict}
use Rattle.exact.specs.declared.fractions.Verdict.TheVariants.{Better, Worse, Equal}
use Rattle.exact.proofs.Lists.{count_most, get_d_map}
use Rattle.projection_tables.specs.Properties.{Rising}
use Rattle.projection_tables.proofs.Halves.{rising-at}
use Rattle.exact.proofs.Members.{get_or-mem}
use Rattle.exact.proofs.Rooms.{map-++, filled-front, filled-length}
use Rattle.exact.proofs.Numbers.{length_from, mem-from, mul-below}
use Rattle.rules.specs.Plan.{Plan, columns, level, entry, most_columns, most_runs}
use Rattle.sets.specs.Sets.{binom, choose, sets_of}
use Rattle.sets.proofs.Parts.{choose-part}
use Rattle.sets.proofs.Pascal.{length-choose, binom-above, many-sets}
use Rattle.set_words.specs.SetWords.{value_in}
use Rattle.set_words.specs.Given.{Tabled, Projection, SizeOf}
use Rattle.plan.specs.Good.{Sound}
use Rattle.counts.specs.Numbered.{Columns, product_of, most_numbers}
use Rattle.parts.specs.Parts.{turned}
use Rattle.parts.proofs.TurnedEntries.{turned-length}
use Rattle.set_words.proofs.Products.{part-projection}
use Rattle.set_words.proofs.Values.{value-short}
use Rattle.part_sums.specs.Counters.{counters_of}
use Rattle.part_sums.specs.Stored.{numbers_in, stored_at, filled_by, places}
use Rattle.part_sums.specs.Given.{Counting, Inside, Worded, Kept}
use Rattle.part_sums.proofs.Counting.{counters-none}
use Rattle.part_sums.proofs.Places.{places-mono, places-base}
use Rattle.part_sums.proofs.Filling.{begun-with, begun-without}
use Rattle.projection_tables.specs.Tables.{Line, line, pick, times, table_of, one_more, Rooms, line_at, lines_in, rooms_filled, table_in, shortest}
use Rattle.projection_tables.specs.Given.{Fillable, Wide, count_all, values_from, Tallied, Walking, Enough, is_little}
use Rattle.projection_tables.proofs.Tables.{EachProper, table_none, table-next, table_is}
use Rattle.projection_tables.proofs.Walks.{one-more-grows, lines-filled, filled-again, length-into, few-sets, each-value, asked, table-right}
use Rattle.projection_tables.proofs.Lines.{length-lines, line-at, column, rooms-eq}

-- ---- the lines after some values more

one-more-most : (v : Fraction) (ls : List Line) → length (one_more v ls) ≤ suc (length ls)
one-more-most v [] = omega arith
one-more-most v (l ∷ ls) = go (smaller_fraction l.value v) (one-more-most v ls)
  where
    go : (r : Verdict) → length (one_more v ls) ≤ suc (length ls) →
        length (pick r (l ∷ one_more v ls) (line v 1 ∷ l ∷ ls) (line l.value (l.sets + 1) ∷ ls)) ≤ suc (suc (length ls))
    go Better h = omega arith
    go Worse h = omega arith
    go Equal h = omega arith

pub count-between : (vs : List Fraction) (ls : List Line) → (length ls ≤ length (count_all vs ls)) × (length (count_all vs ls) ≤ length ls + length vs)
count-between [] ls = (omega arith, omega arith)
count-between (v ∷ vs) ls = omega (arith, count-between vs (one_more v ls), one-more-grows v ls, one-more-most v ls)

pub count-++ : (us vs : List Fraction) (ls : List Line) → count_all (us ++ vs) ls ≡ count_all vs (count_all us ls)
count-++ [] vs ls = refl
count-++ (u ∷ us) vs ls = count-++ us vs (one_more u ls)

-- counted after a table, they are in it
pub count-table : (us vs : List Fraction) → EachProper (us ++ vs) → count_all vs (table_of us) ≡ table_of (us ++ vs)
count-table us [] g = ap table_of (sym (append-nil us))
count-table us (v ∷ vs) g =
    let e : us ++ v ∷ vs ≡ (us ++ v ∷ []) ++ vs = sym (append_assoc us (v ∷ []) vs) in
    let g' : EachProper ((us ++ v ∷ []) ++ vs) = subst EachProper e g in
    ap (count_all vs) (sym (table-next us v (λ x m. g' x (mem-append_left vs m)))) ∙ count-table (us ++ v ∷ []) vs g' ∙ ap table_of (sym e)

module _ (more used : ℕ) (R : Rooms) (vs : List Fraction) (short : (v : Fraction) → Memᴰ v vs → ShortDenominator v) (W : Tallied (length vs + more) used R) where
  abbrev lines : List Line
  lines = count_all vs (lines_in R used)

  all_short : (v : Fraction) → Memᴰ v (W.done ++ vs) → ShortDenominator v
  all_short v m = ⊎_elim (λ n. W.short v n) (λ n. short v n) (mem-append_cases W.done m)

  few-lines : length lines ≤ used + length vs
  few-lines = omega (arith, count-between vs (lines_in R used), length-lines R used)

  fits : (room : List ℕ) (g : Line → ℕ) → used + (length vs + more) ≤ length room → length (into (map g lines) room) ≡ length room
  fits room g h = length-into (map g lines) room (omega (arith, length-map lines g, few-lines))

  -- no room is longer or shorter than it was
  pub tallied-same : (R' : Rooms) → R' ≡ rooms_filled lines R →
      (length R'.nums ≡ length R.nums) × (length R'.dens ≡ length R.dens) × (length R'.counts ≡ length R.counts)
  tallied-same R' e = rw e (fits R.nums (λ l. l.value.num) W.nums-free, fits R.dens (λ l. l.value.den) W.dens-free, fits R.counts (λ l. l.sets) W.counts-free)

  pub tallied-all : (r : ℕ) (R' : Rooms) → r ≡ length lines → R' ≡ rooms_filled lines R → Tallied more r R'
  tallied-all r R' p q =
      let (a, b, c) = tallied-same R' q in
      record {
        done = W.done ++ vs;
        short = all_short;
        lines = ap₂ lines_in q p ∙ lines-filled lines R ∙ ap (count_all vs) W.lines ∙ count-table W.done vs (λ x m. (all_short x m).above_zero);
        nums-free = omega (arith, p, few-lines, W.nums-free, a);
        dens-free = omega (arith, p, few-lines, W.dens-free, b);
        counts-free = omega (arith, p, few-lines, W.counts-free, c);
        few = omega (arith, length-append W.done vs, W.few);
      }

-- counted in two goes
pub filled-twice : (us vs : List Fraction) (used r r' : ℕ) (R R' R'' : Rooms) → r ≡ length (count_all us (lines_in R used)) → R' ≡ rooms_filled (count_all us (lines_in R used)) R →
    r' ≡ length (count_all vs (lines_in R' r)) → R'' ≡ rooms_filled (count_all vs (lines_in R' r)) R' →
    (r' ≡ length (count_all (us ++ vs) (lines_in R used))) × (R'' ≡ rooms_filled (count_all (us ++ vs) (lines_in R used)) R)
filled-twice us vs used r r' R R' R'' p q p' q' =
    let ls = count_all us (lines_in R used) in
    let held : lines_in R' r ≡ ls = ap₂ lines_in q p ∙ lines-filled ls R in
    let both : count_all vs (lines_in R' r) ≡ count_all (us ++ vs) (lines_in R used) = ap (count_all vs) held ∙ sym (count-++ us vs (lines_in R used)) in (
      p' ∙ ap length both,
      q' ∙ ap₂ rooms_filled both q ∙ filled-again ls (count_all (us ++ vs) (lines_in R used)) R (rw (count-++ us vs (lines_in R used)) (count-between vs ls).0),
    )

-- what one set more needs
pub tallied-fillable : (more used : ℕ) (R : Rooms) → 0 < more → Tallied more used R → Fillable used R
tallied-fillable more used R some W =
    let d = line (record { num = 0; den = 0 }) 0 in
    let T = table_is W.done (λ x m. (W.short x m).above_zero) in
    let mem : (k : ℕ) → k < used → Memᴰ (line_at R k) (table_of W.done)
    = λ k l. subst (λ ls. Memᴰ (line_at R k) ls) W.lines (subst (λ x. Memᴰ x (lines_in R used)) (line-at R used k d l) (get_or-mem (lines_in R used) k d (omega (arith, length-lines R used)))) in
    let values = map (λ l. l.value) (lines_in R used) in
    let many : length values ≡ used = length-map (lines_in R used) (λ l. l.value) ∙ length-lines R used in
    let at : (d : Line) (k : ℕ) → k < used → get_or values k zero_fraction ≡ (line_at R k).value
    = λ d k l. get_d_map (λ l. l.value) (lines_in R used) k d zero_fraction (omega (arith, length-lines R used)) ∙ ap (λ l. l.value) (line-at R used k d l) in
    record {
      nums-free = omega (arith, W.nums-free);
      dens-free = omega (arith, W.dens-free);
      counts-free = omega (arith, W.counts-free);
      short = λ k l. W.short _ (T.occurs _ (mem k l));
      rising = λ j k h l. subst (λ x. smaller_fraction x (line_at R k).value ≡ Better) (at d j (omega arith)) (subst (λ x. smaller_fraction (get_or values j zero_fraction) x ≡ Better) (at d k l)
          (rising-at values zero_fraction (subst (λ ls. Rising (map (λ l. l.value) ls)) (sym W.lines) T.rising) j k h (omega (arith, many))));
      few = λ k l. small (line_at R k) (T.counts _ (mem k l)) W.few;
    }
  where
    small : (l : Line) → l.sets ≡ times W.done l.value → length W.done + more < 2 ^ 63 → l.sets < 2 ^ 63
    small l e b = omega (arith, e, count_most (λ w. is_equal (smaller_fraction l.value w)) W.done)

-- ---- the sets, by the first column

module _ (relative : Bool) (p : Plan) (rs P : List ℕ) where
  abbrev values : List (List ℕ) → List Fraction
  values Is = values_from relative p rs P Is

  with_first : (i : ℕ) (Js : List (List ℕ)) → values (map (λ I. i ∷ I) Js) ≡ values_from relative p rs (P ++ i ∷ []) Js
  with_first i [] = refl
  with_first i (J ∷ Js) = ap₂ (λ I vs. value_in relative p rs I ∷ vs) (sym (append_assoc P (i ∷ []) J)) (with_first i Js)

  pub values-none : (rest : List ℕ) (left : ℕ) → length rest < left → choose left rest ≡ []
  values-none rest left h = none (choose left rest) (length-choose left rest ∙ binom-above (length rest) left h)
    where
      none : (Js : List (List ℕ)) → length Js ≡ 0 → Js ≡ []
      none [] e = refl
      none (J ∷ Js) e = absurd (omega arith)

  pub values-leaf : (rest : List ℕ) (left : ℕ) → left ≡ 0 → values (choose left rest) ≡ value_in relative p rs P ∷ []
  values-leaf rest left e = rw e (ap (λ I. value_in relative p rs I ∷ []) (append-nil P))

  pub values-step : (rest : List ℕ) (left : ℕ) → 0 < left → left ≤ length rest →
      values_from relative p rs (P ++ get_or rest 0 0 ∷ []) (choose (left - 1) (drop 1 rest)) ++ values (choose left (drop 1 rest)) ≡ values (choose left rest)
  values-step rest zero some h = absurd (omega arith)
  values-step [] (suc j) some h = absurd (omega arith)
  values-step (i ∷ rest) (suc j) some h =
      let e : suc j - 1 ≡ j = omega arith in
      rw e (sym (map-++ (λ I. value_in relative p rs (P ++ I)) (map (λ I. i ∷ I) (choose j rest)) (choose (suc j) rest) ∙ ap (λ vs. vs ++ values (choose (suc j) rest)) (with_first i (choose j rest))))

-- ---- what the walk is given

module _ (p : Plan) (rs P rest : List ℕ) (left f product : ℕ) (xs : List ℕ) (parts : List ℤ) (W : Walking p rs P rest left f product xs parts) where
  -- the value of each set can be compared
  pub values-short : (relative : Bool) (v : Fraction) → Memᴰ v (values_from relative p rs P (choose left rest)) → ShortDenominator v
  values-short relative v m =
      let (I, n, e) = mem-of_map (λ I. value_in relative p rs (P ++ I)) (choose left rest) m in
      let (part, l) = choose-part f (from 0 (columns p)) (P ++ I) (W.each I n) in
      let S = W.tabled.sound in
      subst ShortDenominator e (value-short p rs (P ++ I) W.tabled (part-projection p S.level-low S.small (P ++ I) part) (omega (arith, W.some)) relative)

  pub walking-leaf : left ≡ 0 → Worded p rs f P product xs parts
  walking-leaf e = record {
    some = W.some;
    chosen = rw (append-nil P) at (W.each [] (subst (λ k. Memᴰ [] (choose k rest)) (sym e) (mem-head refl)));
    product_is = W.begun.product_is;
    numbers-are = W.begun.numbers-are;
    kept = W.kept;
  }

module _ (p : Plan) (rs : List ℕ) (f : ℕ) (ds all counters : List ℕ) (C : Counting p rs f ds all counters)
    (P rest : List ℕ) (left product : ℕ) (xs : List ℕ) (parts : List ℤ) (W : Walking p rs P rest left f product xs parts) (some : 0 < left) (h : left ≤ length rest) where
  there : 0 < length rest
  there = omega arith

  pub walking-with : (ys : List ℕ) → ys ≡ numbers_in p rs (P ++ get_or rest 0 0 ∷ []) →
      Walking p rs (P ++ get_or rest 0 0 ∷ []) (drop 1 rest) (left - 1) f (product * level p (get_or rest 0 0)) ys parts
  walking-with ys e = record {
    tabled = W.tabled;
    some = W.some;
    begun = begun-with p rs f ds all counters C P rest left product xs W.begun some there ys e;
    whole = omega (arith, length-append P (get_or rest 0 0 ∷ []), W.whole);
    each = λ I m. rw (append_assoc P (get_or rest 0 0 ∷ []) I) (W.each (get_or rest 0 0 ∷ I) (first rest left some h I m));
    kept = W.kept;
  }
    where
      first : (rest : List ℕ) (left : ℕ) → 0 < left → left ≤ length rest → (I : List ℕ) → Memᴰ I (choose (left - 1) (drop 1 rest)) → Memᴰ (get_or rest 0 0 ∷ I) (choose left rest)
      first rest zero some h I m = absurd (omega arith)
      first [] (suc j) some h I m = absurd (omega arith)
      first (i ∷ rest) (suc j) some h I m =
          let e : suc j - 1 ≡ j = omega arith in
          mem-append_left (choose (suc j) rest) (mem-map (λ I. i ∷ I) (rw e at m))

  pub walking-without : Walking p rs P (drop 1 rest) left f product xs parts
  walking-without = record {
    tabled = W.tabled;
    some = W.some;
    begun = begun-without p rs f ds all counters C P rest left product xs W.begun some there;
    whole = W.whole;
    each = λ I m. W.each I (later rest left some h I m);
    kept = W.kept;
  }
    where
      later : (rest : List ℕ) (left : ℕ) → 0 < left → left ≤ length rest → (I : List ℕ) → Memᴰ I (choose left (drop 1 rest)) → Memᴰ I (choose left rest)
      later rest zero some h I m = absurd (omega arith)
      later [] (suc j) some h I m = absurd (omega arith)
      later (i ∷ rest) (suc j) some h I m = mem-append_right (map (λ I. i ∷ I) (choose j rest)) m

pub walking-as : (p : Plan) (rs : List ℕ) {P P' rest rest' xs xs' : List ℕ} (left f product : ℕ) (parts : List ℤ) → P ≡ P' → rest ≡ rest' → xs ≡ xs' →
    Walking p rs P' rest' left f product xs' parts → Walking p rs P rest left f product xs parts
walking-as p rs left f product parts a b c W = rw (a, b, c) W

-- a set of f columns is a projection
pub worded-projection : (p : Plan) (rs : List ℕ) (f : ℕ) (I : List ℕ) (product : ℕ) (xs : List ℕ) (parts : List ℤ) → Tabled p rs →
    Worded p rs f I product xs parts → Projection p I × (1 ≤ length I)
worded-projection p rs f I product xs parts G W =
    let (part, l) = choose-part f (from 0 (columns p)) I W.chosen in
    (part-projection p G.sound.level-low G.sound.small I part, omega (arith, W.some))

-- the same walk after some sets are counted
pub tallied-as : {more more' : ℕ} (used : ℕ) (R : Rooms) → more ≡ more' → Tallied more' used R → Tallied more used R
tallied-as used R e W = rw e W

pub count-as : {us vs : List Fraction} (used r : ℕ) (R R' : Rooms) → us ≡ vs → (r ≡ length (count_all us (lines_in R used))) × (R' ≡ rooms_filled (count_all us (lines_in R used)) R) →
    (r ≡ length (count_all vs (lines_in R used))) × (R' ≡ rooms_filled (count_all vs (lines_in R used)) R)
count-as used r R R' e q = rw (sym e) q

pub tallied-fewer : {more more' : ℕ} (used : ℕ) (R : Rooms) → more ≤ more' → Tallied more' used R → Tallied more used R
tallied-fewer used R h W = record {
  done = W.done;
  short = W.short;
  lines = W.lines;
  nums-free = omega (arith, W.nums-free);
  dens-free = omega (arith, W.dens-free);
  counts-free = omega (arith, W.counts-free);
  few = omega (arith, W.few);
}

-- ---- how many sets

pub one-leaf : (rest : List ℕ) (left : ℕ) → left ≡ 0 → 0 < length (choose left rest)
one-leaf rest left e = rw e (omega arith)

pub step-many : (rest : List ℕ) (left : ℕ) → 0 < left → left ≤ length rest →
    length (choose left rest) ≡ length (choose (left - 1) (drop 1 rest)) + length (choose left (drop 1 rest))
step-many rest zero some h = absurd (omega arith)
step-many [] (suc j) some h = absurd (omega arith)
step-many (i ∷ rest) (suc j) some h =
    let e : suc j - 1 ≡ j = omega arith in
    rw e (length-append (map (λ I. i ∷ I) (choose j rest)) (choose (suc j) rest) ∙ ap (λ n. n + length (choose (suc j) rest)) (length-map (choose j rest) (λ I. i ∷ I)))

module _ (relative : Bool) (p : Plan) (rs P : List ℕ) (Is : List (List ℕ)) where
  pub values-many : length (values_from relative p rs P Is) ≡ length Is
  values-many = length-map Is (λ I. value_in relative p rs (P ++ I))

-- no value more
pub unchanged : (more used : ℕ) (R : Rooms) → Tallied more used R → (used ≡ length (count_all [] (lines_in R used))) × (R ≡ rooms_filled (count_all [] (lines_in R used)) R)
unchanged more used R W = (
  sym (length-lines R used),
  rooms-eq (self R.nums (λ l. l.value.num) (omega (arith, W.nums-free)) (λ k. refl)) (self R.dens (λ l. l.value.den) (omega (arith, W.dens-free)) (λ k. refl))
      (self R.counts (λ l. l.sets) (omega (arith, W.counts-free)) (λ k. refl)),
)
  where
    self : (room : List ℕ) (g : Line → ℕ) → used ≤ length room → ((k : ℕ) → g (line_at R k) ≡ get_or room k 0) → room ≡ into (map g (lines_in R used)) room
    self room g h e =
        let c : map g (lines_in R used) ≡ take used room = column R used g room h e in
        let n : length (map g (lines_in R used)) ≡ used = length-map (lines_in R used) g ∙ length-lines R used in
        sym (take-append-drop used room) ∙ ap₂ (λ xs k. xs ++ drop k room) (sym c) (sym n)

-- ---- the whole walk

-- the columns of a plan, and the entries of some runs in them
module _ (p : Plan) (rs : List ℕ) (G : Tabled p rs) where
  pub few-entries : columns p * length rs ≤ 6_144
  few-entries = mul-below (columns p) (length rs) most_columns most_runs G.sound.columns-high G.sound.few

  pub entries-front : (cs room : List ℕ) → cs ≡ from 0 (columns p) → room ≡ filled_to 6_144 0 (turned (entry p) rs cs) →
      (take (columns p * length rs) room ≡ turned (entry p) rs (from 0 (columns p))) × (columns p * length rs ≤ length room)
  entries-front cs room a e =
      let ds = turned (entry p) rs (from 0 (columns p)) in
      let n : length ds ≡ columns p * length rs = turned-length (entry p) rs (from 0 (columns p)) ∙ ap (λ k. k * length rs) (length_from 0 (columns p)) in
      let d : room ≡ filled_to 6_144 0 ds = e ∙ ap (λ cs. filled_to 6_144 0 (turned (entry p) rs cs)) a in (
        ap₂ take (sym n) d ∙ filled-front 6_144 0 ds,
        rw (d, filled-length 6_144 0 ds (rw n few-entries)) few-entries,
      )

  pub every-column : (cs : List ℕ) → cs ≡ from 0 (columns p) → Columns p.levels cs × (length cs ≤ most_columns)
  every-column cs a =
      let inside : (i : ℕ) → Memᴰ i cs → i < columns p = λ i m. omega (arith, mem-from 0 (columns p) (subst (λ cs. Memᴰ i cs) a m)) in
      (record { inside = inside; low = λ i m. G.sound.level-low i (inside i m) }, rw (a, length_from 0 (columns p)) G.sound.columns-high)

-- room for T of every set of up to f - 1 columns, and a counter for each combination of f columns, all zero
pub record Lent (p : Plan) (f : ℕ) (parts : List ℤ) (counters : List ℕ) : Type 0 where
  pub blank : parts ≡ replicate (length parts) (pos 0)
  pub wide : places (columns p + 1) (f - 1) ≤ length parts
  pub cleared : counters ≡ counters_of (length counters) []
  pub short : length counters ≤ most_numbers
  pub enough : (J : List ℕ) → Inside p J → length J ≤ f → product_of (level p) J ≤ length counters

pub lent-zeros : (p : Plan) (f a b : ℕ) → Enough p f a b → Lent p f (replicate a (pos 0)) (replicate b 0)
lent-zeros p f a b E = record {
  blank = ap (λ n. replicate n (pos 0)) (sym (length-replicate a (pos 0)));
  wide = rw (length-replicate a (pos 0)) E.wide;
  cleared = counters-none b ∙ ap (λ n. counters_of n []) (sym (length-replicate b 0));
  short = rw (length-replicate {A = ℕ} b 0) E.short;
  enough = λ J v l. rw (length-replicate {A = ℕ} b 0) (E.each J v l);
}

module _ (p : Plan) (rs : List ℕ) (f : ℕ) (G : Tabled p rs) (z : SizeOf (columns p) f) (parts : List ℤ) (counters : List ℕ) (L : Lent p f parts counters) where
  pub lent-counting : (k : ℕ) → k ≤ f → (ds all : List ℕ) → ds ≡ turned (entry p) rs (from 0 (columns p)) → all ≡ from 0 most_runs → Counting p rs k ds all counters
  lent-counting k h ds all a b = record {
    sound = G.sound;
    size = omega (arith, z.high);
    turned = a;
    listed = b;
    cleared = L.cleared;
    short = L.short;
    enough = λ J v l. L.enough J v (omega arith);
  }

  pub lent-kept : (cs : List ℕ) (parts' : List ℤ) → cs ≡ from 0 (columns p) →
      parts' ≡ filled_by (columns p + 1) (stored_at (columns p + 1) p rs) (f - 1) 0 cs (set parts 0 (stored_at (columns p + 1) p rs 0)) →
      Kept p rs (columns p + 1) (f - 1) parts'
  lent-kept cs parts' a e = record {
    before = parts;
    base-is = refl;
    few = omega (arith, z.high);
    wide = L.wide;
    small = λ x. rw (ap (λ r. get_or r x (pos 0)) L.blank ∙ zeros (length parts) x) (omega arith);
    filled = e ∙ ap (λ cs. filled_by (columns p + 1) (stored_at (columns p + 1) p rs) (f - 1) 0 cs (set parts 0 (stored_at (columns p + 1) p rs 0))) a;
  }
    where
      zeros : (n x : ℕ) → get_or (replicate {A = ℤ} n (pos 0)) x (pos 0) ≡ pos 0
      zeros zero x = refl
      zeros (suc n) zero = refl
      zeros (suc n) (suc x) = zeros n x

  pub walking_start : (cs xs : List ℕ) (parts' : List ℤ) → cs ≡ from 0 (columns p) → xs ≡ numbers_in p rs [] → Kept p rs (columns p + 1) (f - 1) parts' →
      Walking p rs [] cs f f 1 xs parts'
  walking_start cs xs parts' a e K = record {
    tabled = G;
    some = z.low;
    begun = record {
      taken-inside = λ i m. absurd (mem-not_nil m);
      inside = λ i m. omega (arith, mem-from 0 (columns p) (subst (λ cs. Memᴰ i cs) a m));
      few = omega arith;
      numbers-are = e;
      product_is = refl;
    };
    whole = omega arith;
    each = λ I m. subst (λ cs. Memᴰ I (choose f cs)) a m;
    kept = K;
  }

  many : (cs : List ℕ) → cs ≡ from 0 (columns p) → length (choose f cs) ≡ binom (columns p) f
  many cs a = length-choose f cs ∙ ap (λ n. binom n f) (ap length a ∙ length_from 0 (columns p))

  pub tallied-start : (cs : List ℕ) (R : Rooms) → cs ≡ from 0 (columns p) → Wide (binom (columns p) f) R → Tallied (length (choose f cs)) 0 R
  tallied-start cs R a W = record {
    done = [];
    short = λ v m. absurd (mem-not_nil m);
    lines = sym table_none;
    nums-free = omega (arith, many cs a, W.nums-wide);
    dens-free = omega (arith, many cs a, W.dens-wide);
    counts-free = omega (arith, many cs a, W.counts-wide);
    few = omega (arith, many cs a, few-sets (columns p) f G.sound.columns-high z);
  }

  pub counted-table : (relative : Bool) (cs : List ℕ) → cs ≡ from 0 (columns p) → count_all (values_from relative p rs [] (choose f cs)) [] ≡ table_in relative p rs f
  counted-table relative cs a =
      ap (λ cs. count_all (map (value_in relative p rs) (choose f cs)) []) a
      ∙ ap (count_all (map (value_in relative p rs) (sets_of (columns p) f))) (sym table_none)
      ∙ count-table [] (map (value_in relative p rs) (sets_of (columns p) f)) (each-value relative p rs f G z (λ x. 0 < x.den) (λ I P some. (value-short p rs I G P some relative).above_zero))
      ∙ asked relative p rs f G z relative

-- ---- room enough

-- columns of at most s levels
product-most : (level : ℕ → ℕ) (s : ℕ) (J : List ℕ) → ((i : ℕ) → Memᴰ i J → level i ≤ s) → product_of level J ≤ places s (length J)
product-most level s [] h = omega arith
product-most level s (i ∷ J) h =
    omega (arith, mul-below (level i) (product_of level J) s (places s (length J)) (h i (mem-head refl)) (product-most level s J (λ k m. h k (mem-tail m))))

enough-places : (p : Plan) (f a b s : ℕ) → 1 ≤ s → f ≤ 4 → a < 2 ^ 32 → places (columns p + 1) (f - 1) ≤ a → places s 4 ≤ b → b ≤ most_numbers →
    ((i : ℕ) → i < columns p → level p i ≤ s) → Enough p f a b
enough-places p f a b s some h few wide enough short low = record {
  wide = wide;
  few = few;
  short = short;
  each = λ J v l. le_trans (product-most (level p) s J (λ i m. low i (v i m))) (le_trans (places-mono s some (length J) 4 (omega arith)) enough);
}

-- up to 24 columns of 16 levels
pub enough-large : (p : Plan) (rs : List ℕ) (f : ℕ) → Sound p rs → f ≤ 4 → Enough p f 15_625 65_536
enough-large p rs f S h =
    enough-places p f 15_625 65_536 16 (omega arith) h (omega arith)
    (le_trans (places-base (columns p + 1) 25 (omega (arith, S.columns-high)) (f - 1)) (places-mono 25 (omega arith) (f - 1) 3 (omega arith)))
    (omega arith) (omega arith) S.level-high

-- what every member passes, that at a place passes
listed-at : (test : ℕ → Bool) (xs : List ℕ) → T (list_all test xs) → (k : ℕ) → k < length xs → T (test (get_or xs k 0))
listed-at test [] t k h = absurd (omega arith)
listed-at test (x ∷ xs) t zero h = (both (test x) (list_all test xs) t).0
listed-at test (x ∷ xs) t (suc k) h = listed-at test xs (both (test x) (list_all test xs) t).1 k (omega arith)

either : (a b : Bool) → T (a || b) → T a ⊎ T b
either true b t = inl t
either false b t = inr t

-- small places are enough
pub enough-little : (p : Plan) (rs : List ℕ) (f : ℕ) → Sound p rs → f ≤ 4 → is_little p.levels f ≡ true → Enough p f 729 625
unfolding is_little
enough-little p rs f S h e = ⊎_elim few-columns few-taken (either (leb (columns p) 8) (leb f 3) tests.1)
  where
    tests : T (list_all (λ s. leb s 5) p.levels) × T (leb (columns p) 8 || leb f 3)
    tests = both (list_all (λ s. leb s 5) p.levels) (leb (columns p) 8 || leb f 3) (subst T (sym e) tt)

    low : (i : ℕ) → i < columns p → level p i ≤ 5
    low i l = leb→le (level p i) 5 (listed-at (λ s. leb s 5) p.levels tests.0 i l)

    wide : places (columns p + 1) (f - 1) ≤ 729 → Enough p f 729 625
    wide w = enough-places p f 729 625 5 (omega arith) h (omega arith) w (omega arith) (omega arith) low

    few-columns : T (leb (columns p) 8) → Enough p f 729 625
    few-columns t =
        let c = leb→le (columns p) 8 t in
        wide (le_trans (places-base (columns p + 1) 9 (omega arith) (f - 1)) (places-mono 9 (omega arith) (f - 1) 3 (omega arith)))

    few-taken : T (leb f 3) → Enough p f 729 625
    few-taken t =
        let c = leb→le f 3 t in
        wide
        (le_trans (le_trans (places-base (columns p + 1) 25 (omega (arith, S.columns-high)) (f - 1)) (places-mono 25 (omega arith) (f - 1) 2 (omega arith)))
        (omega arith))

-- rooms with a line for every set hold the table
pub every-line : (relative : Bool) (p : Plan) (rs : List ℕ) (f : ℕ) → Tabled p rs → SizeOf (columns p) f → length (table_in relative p rs f) ≤ binom (columns p) f
every-line relative p rs f G z =
    omega (arith, (table-right relative p rs f G z).fewer, length-map (sets_of (columns p) f) (value_in relative p rs), many-sets f 0 (columns p))

pub wide-rooms : (n : ℕ) (R : Rooms) → n ≤ shortest R → Wide n R
wide-rooms n R h =
    let x = length R.nums in
    let y = length R.dens in
    let z = length R.counts in
    record {
      nums-wide = omega (arith, min-le_left x (min y z));
      dens-wide = omega (arith, min-le_right x (min y z), min-le_left y z);
      counts-wide = omega (arith, min-le_right x (min y z), min-le_right y z);
    }
