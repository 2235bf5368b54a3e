-- The room holds U of every place that was filled; and a step of the walk that fills it.
use Rattle.exact.proofs.Ground.{List, [], ◌∷◌, map, ◌++◌, Memᴰ, mem-append_cases, mem-of_singleton, ⊎_elim, ◌≡◌, ◌∙◌, sym}
use Rattle.exact.proofs.Ground.{ap, refl, subst, ℕ, ◌≤◌, ◌<◌, ◌-◌, ◌+◌, ◌*◌, suc, zero, le_trans, arith, pos, ℤ, nat_abs, ◌*ℤ◌, length, get_or, drop, set}
use Rattle.exact.proofs.Ground.{length-append, length-map, length-set, ℕ_discrete, dec_lt, suc-mul, mem-of_map, zero-add, le_refl}
use mathlib.Core.Logic.{dite}
use native.Mathlib.Nat.{mul_assoc}
use lib.Seq.{get_or-set_same, get_or-set_other, set_out, drop-append-add}
use Rattle.exact.specs.Lists.{from}
use Rattle.exact.proofs.Lists.{mem-drop, get_d_map}
use Rattle.exact.proofs.Members.{get_or-mem}
use Rattle.exact.proofs.Numbers.{mul-below, from_at, length_from, map-from-at}
use Rattle.exact.proofs.Order.{nat_abs-*-≤}
use Rattle.rules.specs.Plan.{Plan, columns, level, entry}
use Rattle.plan.specs.Good.{Sound}
use Rattle.sets.proofs.Parts.{Part, none, skip, keep, part-nil}
use Rattle.counts.specs.Numbered.{product_of, number_of, most_numbers}
use Rattle.counts.proofs.Turns.{number-one}
use Rattle.parts.specs.Parts.{squares_of, longer, turned}
use Rattle.parts.proofs.FromCounts.{longer-map, combinations-few}
use Rattle.parts.proofs.Squared.{squares-bound}
use Rattle.parts.proofs.TurnedEntries.{turned-length}
use Rattle.part_sums.specs.Stored.{numbers_in, stored_of, stored_at, place_in, places, columns_at, filled_by}
use Rattle.part_sums.specs.Given.{highest_t, Inside, Counting, Begun, Filling}
use Rattle.part_sums.specs.Counters.{counters_of, Numbers}
use Rattle.part_sums.proofs.Counting.{counters-long}
use Rattle.part_sums.proofs.Places.{Low, place-snoc, place-bound, places-mono, places-base, columns-place}

-- ---- what stands in the room once it is filled

module _ (b : ℕ) (U : ℕ → ℤ) where
  pub filled-long : (left at : ℕ) (rest : List ℕ) (room : List ℤ) → length (filled_by b U left at rest room) ≡ length room
  filled-long zero at rest room = refl
  filled-long (suc j) at [] room = refl
  filled-long (suc j) at (i ∷ rest) room =
      filled-long (suc j) at rest _ ∙ filled-long j (at * b + i + 1) rest _ ∙ length-set room (at * b + i + 1) (U (at * b + i + 1))

  -- what is right stays right
  module _ (Q : ℕ → ℤ → Type 0) (right : (x : ℕ) → Q x (U x)) where
    pub set_keeps : (room : List ℤ) (y x : ℕ) → Q x (get_or room x (pos 0)) → Q x (get_or (set room y (U y)) x (pos 0))
    set_keeps room y x h =
        dite (ℕ_discrete y x)
        (λ e. dite (dec_lt y (length room))
        (λ l. subst (λ z. Q z (get_or (set room y (U y)) z (pos 0))) e (subst (Q y) (sym (get_or-set_same room y (U y) (pos 0) l)) (right y)))
        (λ l. subst (Q x) (sym (ap (λ r. get_or r x (pos 0)) (set_out room y (U y) (omega arith)))) h))
        (λ e. subst (Q x) (sym (get_or-set_other room y x (U y) (pos 0) (λ q. e (sym q)))) h)

    pub filled_keeps : (left at : ℕ) (rest : List ℕ) (room : List ℤ) (x : ℕ) → Q x (get_or room x (pos 0)) → Q x (get_or (filled_by b U left at rest room) x (pos 0))
    filled_keeps zero at rest room x e = e
    filled_keeps (suc j) at [] room x e = e
    filled_keeps (suc j) at (i ∷ rest) room x e =
        let a = at * b + i + 1 in
        filled_keeps (suc j) at rest _ x (filled_keeps j a rest (set room a (U a)) x (set_keeps room a x e))

  abbrev Right : ℕ → ℤ → Type 0
  Right x z = z ≡ U x

  -- and every set is there
  pub filled-holds : (left at : ℕ) (rest : List ℕ) (room : List ℤ) → ((K : List ℕ) → Part K rest → length K ≤ left → place_in b at K < length room) →
      (K : List ℕ) → Part K rest → 1 ≤ length K → length K ≤ left → get_or (filled_by b U left at rest room) (place_in b at K) (pos 0) ≡ U (place_in b at K)
  filled-holds zero at rest room B K p l h = absurd (omega arith)
  filled-holds (suc j) at [] room B K none l h = absurd (omega arith)
  filled-holds (suc j) at (i ∷ rest) room B K (skip p) l h =
      let a = at * b + i + 1 in
      let m : length (filled_by b U j a rest (set room a (U a))) ≡ length room = filled-long j a rest (set room a (U a)) ∙ length-set room a (U a) in
      filled-holds (suc j) at rest _ (λ K p l. rw m (B K (skip p) l)) K p l h
  filled-holds (suc j) at (i ∷ rest) room B (x ∷ []) (keep p) l h =
      let a = at * b + i + 1 in
      filled_keeps Right (λ x. refl) (suc j) at rest _ a
      (filled_keeps Right (λ x. refl) j a rest (set room a (U a)) a (get_or-set_same room a (U a) (pos 0) (B (i ∷ []) (keep (part-nil rest)) (omega arith))))
  filled-holds (suc j) at (i ∷ rest) room B (x ∷ y ∷ K) (keep p) l h =
      let a = at * b + i + 1 in
      let n : length (set room a (U a)) ≡ length room = length-set room a (U a) in
      filled_keeps Right (λ x. refl) (suc j) at rest _ (place_in b a (y ∷ K))
      (filled-holds j a rest (set room a (U a)) (λ K p l. rw n (B (i ∷ K) (keep p) (omega arith))) (y ∷ K) p (omega arith) (omega arith))

  -- ---- a step, in the words of the code

  pub filled_none : (left at : ℕ) (rest : List ℕ) (room : List ℤ) → left ≡ 0 → room ≡ filled_by b U left at rest room
  filled_none left at rest room e = rw e

  pub filled-nothing : (left at : ℕ) (rest : List ℕ) (room : List ℤ) → length rest ≡ 0 → room ≡ filled_by b U left at rest room
  filled-nothing zero at rest room e = refl
  filled-nothing (suc j) at [] room e = refl
  filled-nothing (suc j) at (i ∷ rest) room e = absurd (omega arith)

  pub filled-step : (left at : ℕ) (rest : List ℕ) (room : List ℤ) → 0 < left → 0 < length rest → let a = at * b + get_or rest 0 0 + 1 in
      filled_by b U left at (drop 1 rest) (filled_by b U (left - 1) a (drop 1 rest) (set room a (U a))) ≡ filled_by b U left at rest room
  filled-step zero at rest room h l = absurd (omega arith)
  filled-step (suc j) at [] room h l = absurd (omega arith)
  filled-step (suc j) at (i ∷ rest) room h l = let e : suc j - 1 ≡ j = omega arith in rw e

  pub filled-as : (left at : ℕ) {rest rest' : List ℕ} {room room' : List ℤ} → rest ≡ rest' → room ≡ room' →
      filled_by b U left at rest room ≡ filled_by b U left at rest' room'
  filled-as left at a c = rw (a, c)

-- ---- one digit more

module _ {C : Type 0} (level : C → ℕ) where
  pub product-snoc : (J : List C) (i : C) → product_of level (J ++ i ∷ []) ≡ product_of level J * level i
  product-snoc [] i = omega arith
  product-snoc (j ∷ J) i = rw (product-snoc J i, mul_assoc)

module _ {R C : Type 0} (level : C → ℕ) (entry : R → C → ℕ) (f : R) where
  pub number-snoc : (J : List C) (i : C) → number_of level entry f (J ++ i ∷ []) ≡ number_of level entry f J * level i + entry f i
  number-snoc [] i = omega arith
  number-snoc (j ∷ J) i = rw (product-snoc level J i, number-snoc J i) (omega arith)

-- the entries of the column at place t, and of those behind it
turned-from : {R C : Type 0} (entry : R → C → ℕ) (rs : List R) (d : C) (I : List C) (t : ℕ) → t < length I →
    drop (t * length rs) (turned entry rs I) ≡ map (λ f. entry f (get_or I t d)) rs ++ turned entry rs (drop (suc t) I)
turned-from entry rs d [] t h = absurd (omega arith)
turned-from entry rs d (i ∷ I) zero h = ap (λ n. drop n (turned entry rs (i ∷ I))) (let e : 0 * length rs ≡ 0 = omega arith in e)
turned-from entry rs d (i ∷ I) (suc t) h =
    let row = map (λ f. entry f i) rs in
    let e : suc t * length rs ≡ length row + t * length rs = omega (arith, suc-mul t (length rs), length-map rs (λ f. entry f i)) in
    ap (λ n. drop n (row ++ turned entry rs I)) e ∙ drop-append-add row (turned entry rs I) (t * length rs) ∙ turned-from entry rs d I t (omega arith)

pub snoc-mem : (P : List ℕ) (i : ℕ) (Q : ℕ → Type 0) → ((k : ℕ) → Memᴰ k P → Q k) → Q i → (k : ℕ) → Memᴰ k (P ++ i ∷ []) → Q k
snoc-mem P i Q h q k m = ⊎_elim (λ n. h k n) (λ n. subst Q (sym (mem-of_singleton n)) q) (mem-append_cases P m)

-- ---- the first of the columns left, taken and not

module _ (p : Plan) (rs : List ℕ) (f : ℕ) (ds all counters : List ℕ) (C : Counting p rs f ds all counters)
    (P rest : List ℕ) (left product : ℕ) (xs : List ℕ) (B : Begun p rs P rest left f product xs) (some : 0 < left) (there : 0 < length rest) where
  abbrev i : ℕ
  i = get_or rest 0 0

  pub first-inside : i < columns p
  first-inside = B.inside i (get_or-mem rest 0 0 there)

  one_more : length (P ++ i ∷ []) ≡ suc (length P)
  one_more = length-append P (i ∷ []) ∙ (let e : length P + 1 ≡ suc (length P) = omega arith in e)

  pub all-inside : Inside p (P ++ i ∷ [])
  all-inside = snoc-mem P i (λ k. k < columns p) B.taken-inside first-inside

  pub size_few : length (P ++ i ∷ []) ≤ f
  size_few = omega (arith, one_more, B.few)

  pub more-is : product * level p i ≡ product_of (level p) (P ++ i ∷ [])
  more-is = ap (λ x. x * level p i) B.product_is ∙ sym (product-snoc (level p) P i)

  pub more-enough : product * level p i ≤ length counters
  more-enough = rw more-is (C.enough (P ++ i ∷ []) all-inside size_few)

  -- the entries of that column
  pub column-is : drop (i * length rs) ds ≡ map (λ f. entry p f i) rs ++ turned (entry p) rs (drop (suc i) (from 0 (columns p)))
  column-is =
      ap (drop (i * length rs)) C.turned
      ∙ turned-from (entry p) rs 0 (from 0 (columns p)) i (rw (length_from 0 (columns p)) first-inside)
      ∙ ap (λ k. map (λ f. entry p f k) rs ++ turned (entry p) rs (drop (suc i) (from 0 (columns p)))) (from_at 0 (columns p) i 0 first-inside ∙ (let e : 0 + i ≡ i = omega arith in e))

  pub column-start : i * length rs ≤ length ds
  column-start =
      omega (
        arith,
        ap length C.turned,
        turned-length (entry p) rs (from 0 (columns p)),
        length_from 0 (columns p),
        mul-below i (length rs) (columns p) (length rs) (omega (arith, first-inside)) (le_refl (length rs)),
        ap (λ n. n * length rs) (length_from 0 (columns p)),
      )

  pub longer-is : longer (level p i) xs (drop (i * length rs) ds) ≡ numbers_in p rs (P ++ i ∷ [])
  longer-is =
      rw (column-is, B.numbers-are)
      (longer-map (level p i) (λ f. number_of (level p) (entry p) f P) (λ f. entry p f i) (turned (entry p) rs (drop (suc i) (from 0 (columns p)))) rs
      ∙ map_same rs)
    where
      map_same : (fs : List ℕ) → map (λ f. number_of (level p) (entry p) f P * level p i + entry p f i) fs ≡ map (λ f. number_of (level p) (entry p) f (P ++ i ∷ [])) fs
      map_same [] = refl
      map_same (f ∷ fs) = rw (map_same fs, number-snoc (level p) (entry p) f P i)

  pub longer-small : (k : ℕ) → k < length xs → get_or xs k 0 * level p i + get_or (drop (i * length rs) ds) k 0 < most_numbers
  longer-small k l =
      let h : k < length rs = omega (arith, many) in
      omega (
        arith,
        sym (numbered-at k l) ∙ ap (λ ys. get_or ys k 0) longer-is ∙ get_d_map (λ f. number_of (level p) (entry p) f (P ++ i ∷ [])) rs k 0 0 h,
        number-one (level p) (entry p) (get_or rs k 0) (P ++ i ∷ []) (λ j m. C.sound.below (get_or rs k 0) (get_or-mem rs k 0 h) j (all-inside j m)),
        more-enough,
        more-is,
        C.short,
      )
    where
      many : length xs ≡ length rs
      many = ap length B.numbers-are ∙ length-map rs (λ f. number_of (level p) (entry p) f P)

      numbered-at : (k : ℕ) → k < length xs → get_or (longer (level p i) xs (drop (i * length rs) ds)) k 0 ≡ get_or xs k 0 * level p i + get_or (drop (i * length rs) ds) k 0
      numbered-at k h = map-from-at (λ k. get_or xs k 0 * level p i + get_or (drop (i * length rs) ds) k 0) 0 (length xs) k 0 h ∙ ap (λ k. get_or xs k 0 * level p i + get_or (drop (i * length rs) ds) k 0) (zero-add k)

  pub numbers-long : length xs ≡ length rs
  numbers-long = ap length B.numbers-are ∙ length-map rs (λ f. number_of (level p) (entry p) f P)

  pub column-long : length xs ≤ length (drop (i * length rs) ds)
  column-long = omega (arith, numbers-long, ap length column-is, length-append (map (λ f. entry p f i) rs) (turned (entry p) rs (drop (suc i) (from 0 (columns p)))), length-map rs (λ f. entry p f i))

  -- the numbers with that digit, each below the product of the levels
  pub numbers-below : Numbers (product * level p i) (numbers_in p rs (P ++ i ∷ []))
  numbers-below = record {
    few = rw (length-map rs (λ f. number_of (level p) (entry p) f (P ++ i ∷ []))) C.sound.few;
    below = λ x m.
        let (f, n, e) = mem-of_map (λ f. number_of (level p) (entry p) f (P ++ i ∷ [])) rs m in
        subst (λ x. x < product * level p i) e (rw more-is (number-one (level p) (entry p) f (P ++ i ∷ []) (λ j k. C.sound.below f n j (all-inside j k))));
  }

  behind : Inside p (drop 1 rest)
  behind k m = B.inside k (mem-drop 1 rest k m)

  pub begun-with : (ys : List ℕ) → ys ≡ numbers_in p rs (P ++ i ∷ []) → Begun p rs (P ++ i ∷ []) (drop 1 rest) (left - 1) f (product * level p i) ys
  begun-with ys e = record { taken-inside = all-inside; inside = behind; few = omega (arith, one_more, B.few); numbers-are = e; product_is = more-is }

  pub begun-without : Begun p rs P (drop 1 rest) left f product xs
  begun-without = record { taken-inside = B.taken-inside; inside = behind; few = B.few; numbers-are = B.numbers-are; product_is = B.product_is }

-- T is small
pub stored-small : (p : Plan) (rs : List ℕ) → Sound p rs → (J : List ℕ) → Inside p J → length J ≤ 4 → nat_abs (stored_of p rs J) ≤ highest_t
unfolding stored_of
stored-small p rs S J v h =
    nat_abs-*-≤ (pos (product_of (level p) J)) (squares_of (numbers_in p rs J)) 65_536 65_536
    (combinations-few (level p) J h (λ i m. S.level-high i (v i m)))
    (le_trans (squares-bound (numbers_in p rs J))
    (rw (length-map rs (λ f. number_of (level p) (entry p) f J)) (mul-below (length rs) (length rs) 256 256 S.few S.few)))

pub stored_is : (p : Plan) (rs J : List ℕ) (x : ℕ) (z : ℤ) → x ≡ product_of (level p) J → z ≡ squares_of (numbers_in p rs J) → pos x *ℤ z ≡ stored_of p rs J
unfolding stored_of
stored_is p rs J x z a b = rw (a, b)

-- ---- the same of the columns at a place

module _ (p : Plan) (rs : List ℕ) (f base : ℕ) (ds all counters : List ℕ) (C : Counting p rs f ds all counters)
    (rest : List ℕ) (left at product : ℕ) (xs : List ℕ) (F : Filling p rs rest left f base at product xs) (some : 0 < left) (there : 0 < length rest) where
  abbrev first : ℕ
  first = get_or rest 0 0

  abbrev with : List ℕ
  with = F.taken ++ first ∷ []

  inside-low : (J : List ℕ) → Inside p J → Low base J
  inside-low J v k m = omega (arith, v k m, F.base-is)

  with-inside : Inside p with
  with-inside = all-inside p rs f ds all counters C F.taken rest left product xs F.begun some there

  with-few : length with ≤ f
  with-few = size_few p rs f ds all counters C F.taken rest left product xs F.begun some there

  next-is : at * base + first + 1 ≡ place_in base 0 with
  next-is = ap (λ x. x * base + first + 1) F.place ∙ sym (place-snoc base 0 F.taken first)

  pub next-columns : columns_at base 4 (at * base + first + 1) ≡ with
  next-columns = ap (columns_at base 4) next-is ∙ columns-place base with (inside-low with with-inside) 4 (omega (arith, with-few, C.size))

  pub next-inside : at * base + first + 1 < places base f
  next-inside =
      rw next-is (le_trans (place-bound base with 0 0 (inside-low with with-inside) (omega arith))
      (places-mono base (omega (arith, F.base-is)) (length with + 0) f (omega (arith, with-few))))

  -- four columns of 24 at most
  pub next_low : at * base + first + 1 < places 25 4
  next_low =
      le_trans next-inside (le_trans (places-mono base (omega (arith, F.base-is)) f 4 C.size)
      (places-base base 25 (omega (arith, F.base-is, C.sound.columns-high)) 4))

  pub filling-with : (ys : List ℕ) → ys ≡ numbers_in p rs with → Filling p rs (drop 1 rest) (left - 1) f base (at * base + first + 1) (product * level p first) ys
  filling-with ys e = record {
    taken = with;
    begun = begun-with p rs f ds all counters C F.taken rest left product xs F.begun some there ys e;
    place = next-is;
    base-is = F.base-is;
  }

  pub filling-without : Filling p rs (drop 1 rest) left f base at product xs
  filling-without = record {
    taken = F.taken;
    begun = begun-without p rs f ds all counters C F.taken rest left product xs F.begun some there;
    place = F.place;
    base-is = F.base-is;
  }

  pub value-is : (x : ℕ) (z : ℤ) → x ≡ product * level p first → z ≡ squares_of (numbers_in p rs with) → pos x *ℤ z ≡ stored_at base p rs (at * base + first + 1)
  value-is x z a b =
      stored_is p rs with x z (a ∙ more-is p rs f ds all counters C F.taken rest left product xs F.begun some there) b
      ∙ ap (stored_of p rs) (sym next-columns)

  pub value-small : nat_abs (stored_at base p rs (at * base + first + 1)) ≤ highest_t
  value-small = rw next-columns (stored-small p rs C.sound with with-inside (omega (arith, with-few, C.size)))

pub filling-as : (p : Plan) (rs : List ℕ) {rest rest' xs xs' : List ℕ} (left f base at product : ℕ) → rest ≡ rest' → xs ≡ xs' →
    Filling p rs rest' left f base at product xs' → Filling p rs rest left f base at product xs
filling-as p rs left f base at product a b F = rw (a, b) F

-- the counters, once they are cleared again
pub counting-again : (p : Plan) (rs : List ℕ) (f : ℕ) (ds all C₀ C : List ℕ) → Counting p rs f ds all C₀ → C ≡ counters_of (length C₀) [] → Counting p rs f ds all C
counting-again p rs f ds all C₀ C K e =
    let n : length C ≡ length C₀ = ap length e ∙ counters-long (length C₀) [] in
    record {
      sound = K.sound;
      size = K.size;
      turned = K.turned;
      listed = K.listed;
      cleared = e ∙ ap (λ n. counters_of n []) (sym n);
      short = omega (arith, n, K.short);
      enough = λ J v h. omega (arith, n, K.enough J v h);
    }
