-- The lines in three rooms, and what one set more does to each room.
use Rattle.exact.proofs.Ground.{not, List, [], ◌∷◌, map, ◌++◌, ◌≡◌, ◌∙◌, sym, ap, refl, ap₂, subst, ℕ, ◌≤◌, ◌<◌, ◌+◌, suc, zero}
use Rattle.exact.proofs.Ground.{zero-add, arith, T, length, get_or, take, drop, set, length-map, length-set, take-append-drop, length-take-le}
use Rattle.exact.proofs.Ground.{get_or-take}
use lib.Seq.{set-append_left, set-get_or}
use Rattle.exact.specs.Lists.{from, into, first}
use Rattle.exact.specs.Fractions.{smaller_fraction, is_better}
use Rattle.exact.specs.declared.fractions.Fraction.{Fraction}
use Rattle.exact.specs.declared.fractions.Verdict.{Verdict}
use Rattle.exact.specs.declared.fractions.Verdict.TheVariants.{Better, Worse, Equal}
use Rattle.exact.proofs.Lists.{map-cong-in, map-set, map-take, map-drop, map-map}
use Rattle.exact.proofs.Numbers.{length_from, map-places, mem-from, map-from-at}
use Rattle.exact.proofs.Rooms.{map-++}
use Rattle.exact.proofs.Searches.{IsFirst, first-is}
use Rattle.projection_tables.specs.Tables.{Line, line, one_more, Rooms, rooms, line_at, lines_in, rooms_filled}
use Rattle.projection_tables.specs.Given.{put_before, not_smaller, Fillable}
use Rattle.projection_tables.proofs.Shifts.{length-put}

-- ---- where one set more goes

-- the first k lines have smaller values than v
abbrev pub Smaller : Fraction → List Line → Line → ℕ → Type 0
Smaller v ls d k = (j : ℕ) → j < k → smaller_fraction (get_or ls j d).value v ≡ Better

module _ (v : Fraction) (d : Line) where
  pub one-more-found : (ls : List Line) (k : ℕ) → k < length ls → Smaller v ls d k → smaller_fraction (get_or ls k d).value v ≡ Equal →
      one_more v ls ≡ set ls k (line (get_or ls k d).value ((get_or ls k d).sets + 1))
  one-more-found [] k h s e = absurd (omega arith)
  one-more-found (l ∷ ls) zero h s e = rw e
  one-more-found (l ∷ ls) (suc k) h s e =
      rw (s 0 (omega arith)) (ap (λ r. l ∷ r) (one-more-found ls k (omega arith) (λ j m. s (suc j) (omega arith)) e))

  pub one-more-new : (ls : List Line) (k : ℕ) → k ≤ length ls → Smaller v ls d k →
      (k < length ls → smaller_fraction (get_or ls k d).value v ≡ Worse) → one_more v ls ≡ put_before k (line v 1) ls
  one-more-new [] zero h s e = refl
  one-more-new [] (suc k) h s e = absurd (omega arith)
  one-more-new (l ∷ ls) zero h s e = rw (e (omega arith))
  one-more-new (l ∷ ls) (suc k) h s e =
      rw (s 0 (omega arith)) (ap (λ r. l ∷ r) (one-more-new ls k (omega arith) (λ j m. s (suc j) (omega arith)) (λ m. e (omega arith))))

-- ---- the lines that stand in the first places

module _ {A B : Type 0} where
  map-put : (f : A → B) (k : ℕ) (y : A) (xs : List A) → map f (put_before k y xs) ≡ put_before k (f y) (map f xs)
  map-put f k y xs = map-++ f (take k xs) (y ∷ drop k xs) ∙ ap₂ (λ a b. a ++ f y ∷ b) (map-take f k xs) (map-drop f k xs)

module _ {A : Type 0} where
  -- the first places of a room
  front : (room : List A) (used : ℕ) (d : A) → used ≤ length room → map (λ k. get_or room k d) (from 0 used) ≡ take used room
  front room used d h =
      let n = length-take-le used room h in
      map-cong-in (from 0 used) (λ k m. sym (get_or-take used room k d (omega (arith, mem-from 0 used m))))
      ∙ ap (λ n. map (λ k. get_or (take used room) k d) (from 0 n)) (sym n) ∙ map-places (take used room) d

module _ (R : Rooms) (used : ℕ) where
  pub length-lines : length (lines_in R used) ≡ used
  length-lines = length-map (from 0 used) (line_at R) ∙ length_from 0 used

  pub line-at : (k : ℕ) (d : Line) → k < used → get_or (lines_in R used) k d ≡ line_at R k
  line-at k d h = map-from-at (line_at R) 0 used k d h ∙ ap (line_at R) (zero-add k)

  -- one of the three numbers of each line, from its own room
  pub column : (g : Line → ℕ) (room : List ℕ) → used ≤ length room → ((k : ℕ) → g (line_at R k) ≡ get_or room k 0) →
      map g (lines_in R used) ≡ take used room
  column g room h e = map-map g (line_at R) (from 0 used) ∙ map-cong-in (from 0 used) (λ k m. e k) ∙ front room used 0 h

-- ---- a room with the lines' numbers in its first places

module _ (room : List ℕ) (used : ℕ) (h : used ≤ length room) (g : Line → ℕ) (ls : List Line) (e : map g ls ≡ take used room) where
  -- one line is another
  room-set : (k : ℕ) (y : Line) → k < used → set room k (g y) ≡ into (map g (set ls k y)) room
  room-set k y l =
      let n = length-take-le used room h in
      ap (λ r. set r k (g y)) (sym (take-append-drop used room))
      ∙ set-append_left (take used room) (drop used room) k (g y) (omega arith)
      ∙ ap (λ n. set (take used room) k (g y) ++ drop n room) (sym (length-set (take used room) k (g y) ∙ n))
      ∙ ap (λ xs. into xs room) (sym (map-set g ls k y ∙ ap (λ xs. set xs k (g y)) e))

  -- that line with the same number
  room-kept : (k : ℕ) (y : Line) → k < used → g y ≡ get_or room k 0 → room ≡ into (map g (set ls k y)) room
  room-kept k y l q = sym (set-get_or room k 0) ∙ ap (set room k) (sym q) ∙ room-set k y l

  -- a line more
  room-put : (k : ℕ) (y : Line) → into (put_before k (g y) (take used room)) room ≡ into (map g (put_before k y ls)) room
  room-put k y = ap (λ xs. into xs room) (sym (map-put g k y ls ∙ ap (put_before k (g y)) e))

pub rooms-eq : {a b c a' b' c' : List ℕ} → a ≡ a' → b ≡ b' → c ≡ c' → rooms a b c ≡ rooms a' b' c'
rooms-eq p q r = cc

-- ---- one set more in three rooms, at the place that the search finds

not-better : (r : Verdict) → ¬ (T (not (is_better r))) → r ≡ Better
not-better Better h = refl
not-better Worse h = absurd (h tt)
not-better Equal h = absurd (h tt)

is-worse : (r : Verdict) → T (not (is_better r)) → ¬ (r ≡ Equal) → r ≡ Worse
is-worse Better t n = absurd t
is-worse Worse t n = refl
is-worse Equal t n = absurd (n refl)

module _ (R : Rooms) (used : ℕ) (v : Fraction) (F : Fillable used R) (at : ℕ)
    (found : at ≡ first (not_smaller R.nums R.dens v) 0 used) where
  at_first : IsFirst (not_smaller R.nums R.dens v) 0 used at
  at_first = subst (IsFirst (not_smaller R.nums R.dens v) 0 used) (sym found) (first-is (not_smaller R.nums R.dens v) 0 used)

  pub at-within : at ≤ used
  at-within = omega (arith, at_first.within)

  line-verdict : (k : ℕ) → k < used → (r : Verdict) → smaller_fraction (line_at R k).value v ≡ r →
      smaller_fraction (get_or (lines_in R used) k (line v 0)).value v ≡ r
  line-verdict k h r e = ap (λ l. smaller_fraction l.value v) (line-at R used k (line v 0) h) ∙ e

  all-smaller : Smaller v (lines_in R used) (line v 0) at
  all-smaller j h =
      line-verdict j (omega (arith, at-within)) Better (not-better (smaller_fraction (line_at R j).value v) (at_first.none_before j (omega arith) h))

  nums-column : map (λ l. l.value.num) (lines_in R used) ≡ take used R.nums
  nums-column = column R used (λ l. l.value.num) R.nums (omega (arith, F.nums-free)) (λ k. refl)

  dens-column : map (λ l. l.value.den) (lines_in R used) ≡ take used R.dens
  dens-column = column R used (λ l. l.value.den) R.dens (omega (arith, F.dens-free)) (λ k. refl)

  counts-column : map (λ l. l.sets) (lines_in R used) ≡ take used R.counts
  counts-column = column R used (λ l. l.sets) R.counts (omega (arith, F.counts-free)) (λ k. refl)

  module _ (h : at < used) (e : smaller_fraction (line_at R at).value v ≡ Equal) where
    again : one_more v (lines_in R used) ≡ set (lines_in R used) at (line (line_at R at).value ((line_at R at).sets + 1))
    again =
        one-more-found v (line v 0) (lines_in R used) at (rw (length-lines R used) h) all-smaller
        (line-verdict at h Equal e)
        ∙ ap (λ l. set (lines_in R used) at (line l.value (l.sets + 1))) (line-at R used at (line v 0) h)

    pub found-lines : used ≡ length (one_more v (lines_in R used))
    found-lines = sym (ap length again ∙ length-set (lines_in R used) at _ ∙ length-lines R used)

    pub found-rooms : rooms R.nums R.dens (set R.counts at (get_or R.counts at 0 + 1)) ≡ rooms_filled (one_more v (lines_in R used)) R
    found-rooms =
        let ls = lines_in R used in
        let y = line (line_at R at).value ((line_at R at).sets + 1) in
        rooms-eq (room-kept R.nums used (omega (arith, F.nums-free)) (λ l. l.value.num) ls nums-column at y h refl)
        (room-kept R.dens used (omega (arith, F.dens-free)) (λ l. l.value.den) ls dens-column at y h refl)
        (room-set R.counts used (omega (arith, F.counts-free)) (λ l. l.sets) ls counts-column at y h)
        ∙ ap (λ ls. rooms_filled ls R) (sym again)

  module _ (e : at < used → ¬ (smaller_fraction (line_at R at).value v ≡ Equal)) where
    new : one_more v (lines_in R used) ≡ put_before at (line v 1) (lines_in R used)
    new =
        one-more-new v (line v 0) (lines_in R used) at (rw (length-lines R used) at-within) all-smaller
        (λ h.
        let l : at < used = rw (length-lines R used) at h in
        line-verdict at l Worse (is-worse (smaller_fraction (line_at R at).value v) (at_first.passes (omega arith)) (e l)))

    pub new-lines : used + 1 ≡ length (one_more v (lines_in R used))
    new-lines = sym (ap length new ∙ length-put at (line v 1) (lines_in R used) ∙ ap (λ n. n + 1) (length-lines R used))

    pub new-rooms :
        rooms (into (put_before at v.num (take used R.nums)) R.nums) (into (put_before at v.den (take used R.dens)) R.dens)
        (into (put_before at 1 (take used R.counts)) R.counts)
        ≡ rooms_filled (one_more v (lines_in R used)) R
    new-rooms =
        let ls = lines_in R used in
        rooms-eq (room-put R.nums used (omega (arith, F.nums-free)) (λ l. l.value.num) ls nums-column at (line v 1))
        (room-put R.dens used (omega (arith, F.dens-free)) (λ l. l.value.den) ls dens-column at (line v 1))
        (room-put R.counts used (omega (arith, F.counts-free)) (λ l. l.sets) ls counts-column at (line v 1))
        ∙ ap (λ ls. rooms_filled ls R) (sym new)
