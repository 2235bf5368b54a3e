-- A table is what document 01 says: strictly rising, complete, nothing made up, each count right. One set more changes one line.
use Rattle.exact.proofs.Ground.{true, false, cond, List, [], ◌∷◌, map, ◌++◌, Memᴰ, mem-head, mem-tail, mem-not_nil}
use Rattle.exact.proofs.Ground.{mem-of_map, mem-append_left, mem-append_right, mem-map, mem-append_cases, mem-of_singleton, ◌⊎◌}
use Rattle.exact.proofs.Ground.{inl, inr, ◌≡◌, ◌∙◌, sym, ap, refl, ap₂, subst, ◌≤◌, ◌<◌, ◌+◌, suc, arith, length, length-append, length-map}
use Rattle.exact.specs.Fractions.{smaller_fraction, is_equal}
use Rattle.exact.specs.declared.fractions.Fraction.{Fraction}
use Rattle.exact.specs.declared.fractions.Verdict.{Verdict}
use Rattle.exact.specs.declared.fractions.Verdict.TheVariants.{Better, Worse, Equal}
use Rattle.exact.specs.Lawful.{opposite}
use Rattle.exact.proofs.Lawful.{fractions}
use Rattle.exact.proofs.Lists.{grown, count-snoc, count_none, map-cong-in}
use Rattle.projection_tables.specs.Tables.{Line, line, pick, insert, insert_all, distinct, times, table_of, one_more}
use Rattle.projection_tables.specs.Properties.{Below, Rising, counted_in, IsTable}

-- ---- verdicts

clash : {X : Type 0} {u v w : Verdict} → u ≡ v → u ≡ w → is_equal v ≡ true → is_equal w ≡ false → X
clash p q e f = absurd (let z : true ≡ false = cc in subst (λ b. cond b (Unit {0}) ⊥) z tt)

abbrev pub Proper : Fraction → Type 0
Proper x = 0 < x.den

abbrev pub EachProper : List Fraction → Type 0
EachProper xs = (x : Fraction) → Memᴰ x xs → Proper x

-- ---- a value put among rising values

module _ (v : Fraction) where
  -- nothing is made up
  insert-mem : (us : List Fraction) (x : Fraction) → Memᴰ x (insert v us) → Memᴰ x (v ∷ us)
  insert-mem [] x m = m
  insert-mem (u ∷ us) x m = go (smaller_fraction u v) (insert-mem us x) m
    where
      under : Memᴰ x (v ∷ us) → Memᴰ x (v ∷ u ∷ us)
      under (mem-head e) = mem-head e
      under (mem-tail k) = mem-tail (mem-tail k)

      further : (Memᴰ x (insert v us) → Memᴰ x (v ∷ us)) → Memᴰ x (u ∷ insert v us) → Memᴰ x (v ∷ u ∷ us)
      further h (mem-head e) = mem-tail (mem-head e)
      further h (mem-tail k) = under (h k)

      go : (r : Verdict) → (Memᴰ x (insert v us) → Memᴰ x (v ∷ us)) →
          Memᴰ x (pick r (u ∷ insert v us) (v ∷ u ∷ us) (u ∷ us)) → Memᴰ x (v ∷ u ∷ us)
      go Better h k = further h k
      go Worse h k = k
      go Equal h k = mem-tail k

  -- nothing is lost
  insert-keeps : (us : List Fraction) (x : Fraction) → Memᴰ x us → Memᴰ x (insert v us)
  insert-keeps [] x m = absurd (mem-not_nil m)
  insert-keeps (u ∷ us) x m = go (smaller_fraction u v) (insert-keeps us x) m
    where
      go : (r : Verdict) → (Memᴰ x us → Memᴰ x (insert v us)) → Memᴰ x (u ∷ us) →
          Memᴰ x (pick r (u ∷ insert v us) (v ∷ u ∷ us) (u ∷ us))
      go Better h (mem-head e) = mem-head e
      go Better h (mem-tail k) = mem-tail (h k)
      go Worse h k = mem-tail k
      go Equal h k = k

  length-insert : (us : List Fraction) → length (insert v us) ≤ suc (length us)
  length-insert [] = omega arith
  length-insert (u ∷ us) = go (smaller_fraction u v) (length-insert us)
    where
      go : (r : Verdict) → length (insert v us) ≤ suc (length us) →
          length (pick r (u ∷ insert v us) (v ∷ u ∷ us) (u ∷ us)) ≤ suc (suc (length us))
      go Better h = omega arith
      go Worse h = omega arith
      go Equal h = omega arith

-- a list that has a value equal to x
abbrev Has : Fraction → List Fraction → Type 0
Has x ds = (y : Fraction) × Memᴰ y ds × (smaller_fraction y x ≡ Equal)

module _ (v : Fraction) (p : Proper v) where
  insert-has : (us : List Fraction) → Has v (insert v us)
  insert-has [] = (v, mem-head refl, fractions.same v p)
  insert-has (u ∷ us) = go (smaller_fraction u v) refl (insert-has us)
    where
      go : (r : Verdict) → smaller_fraction u v ≡ r → Has v (insert v us) → Has v (pick r (u ∷ insert v us) (v ∷ u ∷ us) (u ∷ us))
      go Better e (y, m, q) = (y, mem-tail m, q)
      go Worse e h = (v, mem-head refl, fractions.same v p)
      go Equal e h = (u, mem-head refl, e)

  -- a value that u passes is passed by what is larger than u
  passed : (u : Fraction) (us : List Fraction) → EachProper (u ∷ us) → smaller_fraction u v ≡ Worse → Below u us → Below v (u ∷ us)
  passed u us g e b y (mem-head q) = rw q (fractions.turn u v (g u (mem-head refl)) p ∙ ap opposite e)
  passed u us g e b y (mem-tail m) =
      let pu = g u (mem-head refl) in
      fractions.trans v u y p pu (g y (mem-tail m)) (fractions.turn u v pu p ∙ ap opposite e) (b y m)

  -- and so is a value equal to u
  level-with : (u : Fraction) (us : List Fraction) → EachProper (u ∷ us) → smaller_fraction u v ≡ Equal → Below u us → Below v us
  level-with u us g e b y m =
      sym (fractions.alike u v y (g u (mem-head refl)) p (g y (mem-tail m)) e) ∙ b y m

  insert-rising : (us : List Fraction) → EachProper us → Rising us → Rising (insert v us)
  insert-rising [] g r = ((λ y m. absurd (mem-not_nil m)), tt)
  insert-rising (u ∷ us) g (b, r) = go (smaller_fraction u v) refl (insert-rising us (λ x m. g x (mem-tail m)) r)
    where
      either : smaller_fraction u v ≡ Better → (y : Fraction) → Memᴰ y (v ∷ us) → smaller_fraction u y ≡ Better
      either e y (mem-head q) = rw q e
      either e y (mem-tail m) = b y m

      go : (t : Verdict) → smaller_fraction u v ≡ t → Rising (insert v us) → Rising (pick t (u ∷ insert v us) (v ∷ u ∷ us) (u ∷ us))
      go Better e h = ((λ y m. either e y (insert-mem v us y m)), h)
      go Worse e h = (passed u us g e b, (b, r))
      go Equal e h = (b, r)

-- ---- the distinct values

insert_all-snoc : (ds vs : List Fraction) (v : Fraction) → insert_all ds (vs ++ v ∷ []) ≡ insert v (insert_all ds vs)
insert_all-snoc ds [] v = refl
insert_all-snoc ds (w ∷ vs) v = insert_all-snoc (insert w ds) vs v

record IsDistinct (vs ds : List Fraction) : Type 0 where
  rising : Rising ds
  occurs : (x : Fraction) → Memᴰ x ds → Memᴰ x vs
  complete : (x : Fraction) → Memᴰ x vs → Has x ds
  fewer : length ds ≤ length vs

module _ (vs : List Fraction) (v : Fraction) (proper : EachProper (vs ++ v ∷ [])) where
  one-proper : Proper v
  one-proper = proper v (mem-append_right vs (mem-head refl))

  others-proper : EachProper vs
  others-proper x m = proper x (mem-append_left (v ∷ []) m)

  distinct-next : (ds : List Fraction) → IsDistinct vs ds → IsDistinct (vs ++ v ∷ []) (insert v ds)
  distinct-next ds D = record {
    rising = insert-rising v one-proper ds (λ x m. others-proper x (D.occurs x m)) D.rising;
    occurs = λ x m. among x (insert-mem v ds x m);
    complete = λ x m. has x (mem-append_cases vs m);
    fewer = omega (arith, length-insert v ds, length-append vs (v ∷ []), D.fewer);
  }
    where
      among : (x : Fraction) → Memᴰ x (v ∷ ds) → Memᴰ x (vs ++ v ∷ [])
      among x (mem-head e) = mem-append_right vs (mem-head e)
      among x (mem-tail m) = mem-append_left (v ∷ []) (D.occurs x m)

      kept : (x : Fraction) → Has x ds → Has x (insert v ds)
      kept x (y, m, e) = (y, insert-keeps v ds y m, e)

      has : (x : Fraction) → Memᴰ x vs ⊎ Memᴰ x (v ∷ []) → Has x (insert v ds)
      has x (inl m) = kept x (D.complete x m)
      has x (inr m) = subst (λ z. Has z (insert v ds)) (sym (mem-of_singleton m)) (insert-has v one-proper ds)

distinct-is : (vs : List Fraction) → EachProper vs → IsDistinct vs (distinct vs)
distinct-is =
    grown (λ vs. EachProper vs → IsDistinct vs (distinct vs))
    (λ g. record { rising = tt; occurs = λ x m. m; complete = λ x m. absurd (mem-not_nil m); fewer = omega arith })
    (λ vs v ih g. rw (insert_all-snoc [] vs v) (distinct-next vs v g (distinct vs) (ih (others-proper vs v g))))

-- ---- one set more

-- v equals none of the values
abbrev NoneEqual : Fraction → List Fraction → Type 0
NoneEqual v ds = (y : Fraction) → Memᴰ y ds → ¬ (smaller_fraction y v ≡ Equal)

module _ (vs : List Fraction) (v : Fraction) (proper : EachProper (vs ++ v ∷ [])) where
  equal-counts : (w : Fraction) → smaller_fraction w v ≡ Equal → times (vs ++ v ∷ []) w ≡ times vs w + 1
  equal-counts w e = count-snoc (λ x. is_equal (smaller_fraction w x)) vs v ∙ rw e

  other-counts : (w : Fraction) (r : Verdict) → smaller_fraction w v ≡ r → is_equal r ≡ false → times (vs ++ v ∷ []) w ≡ times vs w
  other-counts w r e q = count-snoc (λ x. is_equal (smaller_fraction w x)) vs v ∙ rw (e, q)

  -- larger values keep their lines
  larger-counts : (ws : List Fraction) → EachProper ws → Below v ws →
      map (λ w. line w (times (vs ++ v ∷ []) w)) ws ≡ map (λ w. line w (times vs w)) ws
  larger-counts ws g b =
      map-cong-in ws
      (λ w m. ap (line w) (other-counts w Worse (fractions.turn v w (one-proper vs v proper) (g w m) ∙ ap opposite (b w m)) refl))

  -- a value that equals none of the lines' is new
  first_count : NoneEqual v (distinct vs) → times (vs ++ v ∷ []) v ≡ 1
  first_count h =
      equal-counts v (fractions.same v one)
      ∙ ap (λ k. k + 1) (count_none (λ x. is_equal (smaller_fraction v x)) vs (λ x m. differs x m (smaller_fraction v x) refl))
    where
      one : Proper v
      one = one-proper vs v proper

      differs : (x : Fraction) → Memᴰ x vs → (r : Verdict) → smaller_fraction v x ≡ r → is_equal r ≡ false
      differs x m Better e = refl
      differs x m Worse e = refl
      differs x m Equal e =
          let D = distinct-is vs (others-proper vs v proper) in
          let (y, k, q) = D.complete x m in
          let px = others-proper vs v proper x m in
          let py = others-proper vs v proper y (D.occurs y k) in
          absurd (h y k (fractions.alike y x v py px one q ∙ fractions.turn v x one px ∙ ap opposite e))

  with-one : (ds : List Fraction) → EachProper ds → Rising ds → (NoneEqual v ds → times (vs ++ v ∷ []) v ≡ 1) →
      map (λ w. line w (times (vs ++ v ∷ []) w)) (insert v ds) ≡ one_more v (map (λ w. line w (times vs w)) ds)
  with-one [] g r new = ap (λ k. line v k ∷ []) (new (λ y m e. mem-not_nil m))
  with-one (w ∷ ws) g (b, r) new = go (smaller_fraction w v) refl (with-one ws (λ x m. g x (mem-tail m)) r)
    where
      one : Proper v
      one = one-proper vs v proper

      turned : (y : Fraction) → Proper y → smaller_fraction v y ≡ Better → ¬ (smaller_fraction y v ≡ Equal)
      turned y q e d = clash d (fractions.turn v y one q ∙ ap opposite e) refl refl

      beyond : smaller_fraction w v ≡ Better → NoneEqual v ws → NoneEqual v (w ∷ ws)
      beyond e h y (mem-head q) d = clash d (ap (λ z. smaller_fraction z v) q ∙ e) refl refl
      beyond e h y (mem-tail m) d = h y m d

      go : (t : Verdict) → smaller_fraction w v ≡ t →
          ((NoneEqual v ws → times (vs ++ v ∷ []) v ≡ 1) →
          map (λ w. line w (times (vs ++ v ∷ []) w)) (insert v ws) ≡ one_more v (map (λ w. line w (times vs w)) ws)) →
          map (λ w. line w (times (vs ++ v ∷ []) w)) (pick t (w ∷ insert v ws) (v ∷ w ∷ ws) (w ∷ ws))
          ≡ pick t (line w (times vs w) ∷ one_more v (map (λ w. line w (times vs w)) ws))
          (line v 1 ∷ line w (times vs w) ∷ map (λ w. line w (times vs w)) ws)
          (line w (times vs w + 1) ∷ map (λ w. line w (times vs w)) ws)
      go Better e ih = ap₂ (λ k ls. line w k ∷ ls) (other-counts w Better e refl) (ih (λ h. new (beyond e h)))
      go Worse e ih =
          let below = passed v one w ws g e b in
          ap₂ (λ k ls. line v k ∷ ls) (new (λ y m. turned y (g y m) (below y m))) (larger-counts (w ∷ ws) g below)
      go Equal e ih =
          ap₂ (λ k ls. line w k ∷ ls) (equal-counts w e)
          (larger-counts ws (λ x m. g x (mem-tail m)) (level-with v one w ws g e b))

  -- the count of its line is one higher, or a line of count 1 is put in its place
  pub table-next : table_of (vs ++ v ∷ []) ≡ one_more v (table_of vs)
  unfolding table_of
  table-next =
      let D = distinct-is vs (others-proper vs v proper) in
      ap (map (λ w. line w (times (vs ++ v ∷ []) w))) (insert_all-snoc [] vs v)
      ∙ with-one (distinct vs) (λ x m. others-proper vs v proper x (D.occurs x m)) D.rising first_count

-- ---- the table

one-counted : (v : Fraction) (ls : List Line) → counted_in (one_more v ls) ≡ counted_in ls + 1
one-counted v [] = refl
one-counted v (l ∷ ls) = go (smaller_fraction l.value v) (one-counted v ls)
  where
    go : (r : Verdict) → counted_in (one_more v ls) ≡ counted_in ls + 1 →
        counted_in (pick r (l ∷ one_more v ls) (line v 1 ∷ l ∷ ls) (line l.value (l.sets + 1) ∷ ls)) ≡ l.sets + counted_in ls + 1
    go Better h = omega arith
    go Worse h = omega arith
    go Equal h = omega arith

pub table_none : table_of [] ≡ []
unfolding table_of
table_none = refl

all-counted : (vs : List Fraction) → EachProper vs → counted_in (table_of vs) ≡ length vs
all-counted =
    grown (λ vs. EachProper vs → counted_in (table_of vs) ≡ length vs) (λ g. ap counted_in table_none)
    (λ vs v ih g. rw (table-next vs v g) (one-counted v (table_of vs) ∙ omega (arith, ih (others-proper vs v g), length-append vs (v ∷ []))))

pub table_is : (vs : List Fraction) → EachProper vs → IsTable vs (table_of vs)
unfolding table_of
table_is vs g =
    let D = distinct-is vs g in
    let shown : Fraction → Line = λ v. line v (times vs v) in
    record {
      rising = rw (values (distinct vs)) D.rising;
      occurs = λ l m. let (x, k, e) = mem-of_map shown (distinct vs) m in subst (λ z. Memᴰ z.value vs) e (D.occurs x k);
      complete = λ x m. let (y, k, e) = D.complete x m in (shown y, mem-map shown k, e);
      counts = λ l m. let (x, k, e) = mem-of_map shown (distinct vs) m in subst (λ z. z.sets ≡ times vs z.value) e refl;
      counted = all-counted vs g;
      fewer = omega (arith, length-map (distinct vs) shown, D.fewer);
    }
  where
    values : (ds : List Fraction) → map (λ l. l.value) (map (λ v. line v (times vs v)) ds) ≡ ds
    values [] = refl
    values (d ∷ ds) = ap (λ l. d ∷ l) (values ds)
