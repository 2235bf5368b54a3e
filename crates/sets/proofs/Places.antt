-- The place of a set and the set at a place, each by one walk over the columns, and each the inverse of the other.
use Rattle.exact.proofs.Ground.{true, false, Bool, cond, List, [], ◌∷◌, map, ◌++◌, Memᴰ, mem-head, mem-tail, mem-not_nil, ◌≡◌}
use Rattle.exact.proofs.Ground.{◌∙◌, sym, ap, refl, subst, ℕ, ◌≤◌, ◌<◌, ◌-◌, ◌+◌, suc, zero, dec_lt, arith, eqb, T, ltb, eqb→eq, eqb_refl, length}
use Rattle.exact.proofs.Ground.{get_or, take, replicate, length-append, length-map, get_or-append, take_at, ne_eqb, le-ltb, lt-ltb}
use mathlib.Core.Logic.{dite}
use lib.Seq.{get_or-append-add}
use Rattle.exact.specs.Lists.{from, filled_to, same}
use Rattle.exact.proofs.Numbers.{mem-from, map-places}
use Rattle.exact.proofs.Tests.{both, join, is_true}
use Rattle.exact.proofs.Members.{get_or-mem}
use Rattle.rules.specs.Refusals.{is_set}
use Rattle.sets.specs.Sets.{choose, binom, position, sets_of, set_at, place_of}
use Rattle.sets.proofs.Parts.{Part, none, skip, keep, part-mem, choose-part, part-choose}
use Rattle.sets.proofs.Pascal.{many-sets}
use Rattle.sets.proofs.Rising.{set-part, part-set}

-- ---- a list's place in a list of lists

same_refl : (xs : List ℕ) → T (same xs xs)
same_refl [] = tt
same_refl (x ∷ xs) = join (eqb x x) (same xs xs) (eqb_refl x) (same_refl xs)

same-eq : (xs ys : List ℕ) → T (same xs ys) → xs ≡ ys
same-eq [] [] t = refl
same-eq [] (y ∷ ys) t = absurd t
same-eq (x ∷ xs) [] t = absurd t
same-eq (x ∷ xs) (y ∷ ys) t = let (p, q) = both (eqb x y) (same xs ys) t in rw (eqb→eq x y p, same-eq xs ys q)

not_first : (I K : List ℕ) (Js : List (List ℕ)) → same I K ≡ false → Memᴰ I (K ∷ Js) → Memᴰ I Js
not_first I K Js e (mem-head q) = absurd (subst T (ap (same I) q ∙ e) (same_refl I))
not_first I K Js e (mem-tail m) = m

-- the place is below the length, and the list there is the one that was looked for
abbrev There : List ℕ → List (List ℕ) → ℕ → Type 0
There I Js k = (k < length Js) × (get_or Js k [] ≡ I)

position-there : (I : List ℕ) (Js : List (List ℕ)) → Memᴰ I Js → There I Js (position I Js)
position-there I [] m = absurd (mem-not_nil m)
position-there I (K ∷ Js) m = go (same I K) refl (λ n. position-there I Js n)
  where
    go : (b : Bool) → same I K ≡ b → (Memᴰ I Js → There I Js (position I Js)) → There I (K ∷ Js) (cond b 0 (suc (position I Js)))
    go true e later = (omega arith, sym (same-eq I K (rw e tt)))
    go false e later = let (l, q) = later (not_first I K Js e m) in (omega arith, q)

-- among the sets that begin with x, and then others
position_first : (x : ℕ) (I : List ℕ) (Js Ks : List (List ℕ)) → Memᴰ I Js → position (x ∷ I) (map (λ J. x ∷ J) Js ++ Ks) ≡ position I Js
position_first x I [] Ks m = absurd (mem-not_nil m)
position_first x I (K ∷ Js) Ks m = rw (is_true (eqb x x) (eqb_refl x)) (go (same I K) refl (λ n. position_first x I Js Ks n))
  where
    p : ℕ
    p = position (x ∷ I) (map (λ J. x ∷ J) Js ++ Ks)

    go : (b : Bool) → same I K ≡ b → (Memᴰ I Js → p ≡ position I Js) → cond b 0 (suc p) ≡ cond b 0 (suc (position I Js))
    go true e later = refl
    go false e later = ap suc (later (not_first I K Js e m))

position_later : (x i : ℕ) (J : List ℕ) (Js Ks : List (List ℕ)) → x < i → position (i ∷ J) (map (λ I. x ∷ I) Js ++ Ks) ≡ length Js + position (i ∷ J) Ks
position_later x i J [] Ks h = omega arith
position_later x i J (I ∷ Js) Ks h = rw (ne_eqb i x (λ e. omega arith), position_later x i J Js Ks h) (omega arith)

-- ---- the place by one walk over the n columns from a on: a column that is left out passes the sets that have it

abbrev pub place_from : ℕ → ℕ → List ℕ → ℕ
place_from a zero I = 0
place_from a (suc n) [] = 0
place_from a (suc n) (i ∷ I) = cond (eqb i a) (place_from (suc a) n I) (binom n (length I) + place_from (suc a) n (i ∷ I))

pub place_none : (a n : ℕ) → place_from a n [] ≡ 0
place_none a zero = refl
place_none a (suc n) = refl

pub place-keep : (a n : ℕ) (I : List ℕ) → place_from a (suc n) (a ∷ I) ≡ place_from (suc a) n I
place-keep a n I = rw (is_true (eqb a a) (eqb_refl a))

pub place-skip : (a n i : ℕ) (I : List ℕ) → a < i → place_from a (suc n) (i ∷ I) ≡ binom n (length I) + place_from (suc a) n (i ∷ I)
place-skip a n i I h = rw (ne_eqb i a (λ e. omega arith))

-- the first member of a set of later columns
pub part-later : (a n i : ℕ) (I : List ℕ) → Part (i ∷ I) (from (suc a) n) → a < i
part-later a n i I p = omega (arith, mem-from (suc a) n (part-mem p i (mem-head refl)))

position_from : (a n : ℕ) (I : List ℕ) → Part I (from a n) → position I (choose (length I) (from a n)) ≡ place_from a n I
position_from a zero I none = refl
position_from a (suc n) I (keep {I = J} p) =
    position_first a J (choose (length J) (from (suc a) n)) (choose (suc (length J)) (from (suc a) n)) (part-choose p)
    ∙ position_from (suc a) n J p ∙ sym (place-keep a n J)
position_from a (suc n) [] (skip p) = refl
position_from a (suc n) (i ∷ J) (skip p) =
    position_later a i J (choose (length J) (from (suc a) n)) (choose (suc (length J)) (from (suc a) n)) (part-later a n i J p)
    ∙ rw (many-sets (length J) (suc a) n, position_from (suc a) n (i ∷ J) p) (sym (place-skip a n i J (part-later a n i J p)))

pub place-walk : (m : ℕ) (I : List ℕ) → T (is_set m I) → place_of m I ≡ place_from 0 m I
unfolding place_of
place-walk m I t = position_from 0 m I (set-part m I t)

-- ---- the set by one walk: the sets that have the column come first

abbrev pub set_from : ℕ → ℕ → ℕ → ℕ → List ℕ
set_from a n zero k = []
set_from a zero (suc j) k = []
set_from a (suc n) (suc j) k = cond (ltb k (binom n j)) (a ∷ set_from (suc a) n j k) (set_from (suc a) n (suc j) (k - binom n j))

pub set-keep : (a n j k : ℕ) → k < binom n j → set_from a (suc n) (suc j) k ≡ a ∷ set_from (suc a) n j k
set-keep a n j k h = rw (lt-ltb k (binom n j) h)

pub set-skip : (a n j k : ℕ) → set_from a (suc n) (suc j) (binom n j + k) ≡ set_from (suc a) n (suc j) k
set-skip a n j k = let e : binom n j + k - binom n j ≡ k = omega arith in rw (le-ltb (binom n j + k) (binom n j) (omega arith), e)

-- a claim of every place below the number of sets, by the two cases of the walk
walk-ind : (P : ℕ → ℕ → ℕ → ℕ → Type 0) → ((a n : ℕ) → P a n 0 0) →
    ((a n j k : ℕ) → k < binom n j → P (suc a) n j k → P a (suc n) (suc j) k) →
    ((a n j k : ℕ) → k < binom n (suc j) → P (suc a) n (suc j) k → P a (suc n) (suc j) (binom n j + k)) →
    (a n j k : ℕ) → k < binom n j → P a n j k
walk-ind P f g h a n zero k l = subst (λ i. P a n 0 i) (let e : 0 ≡ k = omega arith in e) (f a n)
walk-ind P f g h a zero (suc j) k l = absurd (omega arith)
walk-ind P f g h a (suc n) (suc j) k l =
    dite (dec_lt k (binom n j))
    (λ q. g a n j k q (walk-ind P f g h (suc a) n j k q))
    (λ q. let r : k - binom n j < binom n (suc j) = omega arith in
    subst (λ i. P a (suc n) (suc j) i) (let e : binom n j + (k - binom n j) ≡ k = omega arith in e)
    (h a n j (k - binom n j) r (walk-ind P f g h (suc a) n (suc j) (k - binom n j) r)))

map_at : (x : ℕ) (Js : List (List ℕ)) (k : ℕ) → k < length Js → get_or (map (λ I. x ∷ I) Js) k [] ≡ x ∷ get_or Js k []
map_at x [] k h = absurd (omega arith)
map_at x (K ∷ Js) zero h = refl
map_at x (K ∷ Js) (suc k) h = map_at x Js k (omega arith)

set-from : (a n j k : ℕ) → k < binom n j → get_or (choose j (from a n)) k [] ≡ set_from a n j k
set-from = walk-ind (λ a n j k. get_or (choose j (from a n)) k [] ≡ set_from a n j k) (λ a n. refl) first later
  where
    first : (a n j k : ℕ) → k < binom n j → get_or (choose j (from (suc a) n)) k [] ≡ set_from (suc a) n j k →
        get_or (choose (suc j) (from a (suc n))) k [] ≡ set_from a (suc n) (suc j) k
    first a n j k h e =
        let Js = choose j (from (suc a) n) in
        let l : k < length Js = rw (many-sets j (suc a) n) h in
        get_or-append (map (λ I. a ∷ I) Js) (choose (suc j) (from (suc a) n)) [] k (rw (length-map Js (λ I. a ∷ I)) l)
        ∙ map_at a Js k l ∙ ap (λ I. a ∷ I) e ∙ sym (set-keep a n j k h)

    later : (a n j k : ℕ) → k < binom n (suc j) → get_or (choose (suc j) (from (suc a) n)) k [] ≡ set_from (suc a) n (suc j) k →
        get_or (choose (suc j) (from a (suc n))) (binom n j + k) [] ≡ set_from a (suc n) (suc j) (binom n j + k)
    later a n j k h e =
        let Js = map (λ I. a ∷ I) (choose j (from (suc a) n)) in
        let Ks = choose (suc j) (from (suc a) n) in
        let many : binom n j ≡ length Js = sym (length-map (choose j (from (suc a) n)) (λ I. a ∷ I) ∙ many-sets j (suc a) n) in
        ap (λ i. get_or (Js ++ Ks) (i + k) []) many ∙ get_or-append-add Js Ks k [] ∙ e ∙ sym (set-skip a n j k)

pub set_walk : (m f k : ℕ) → k < binom m f → set_at m f k ≡ set_from 0 m f k
unfolding set_at
set_walk m f k h = set-from 0 m f k h

-- ---- the set at a place is a set of its size

set-from-part : (a n j k : ℕ) → k < binom n j → Part (set_from a n j k) (from a n) × (length (set_from a n j k) ≡ j)
set-from-part a n j k h =
    rw (← (set-from a n j k h)) (choose-part j (from a n) _ (get_or-mem (choose j (from a n)) k [] (rw (many-sets j a n) h)))

pub set-at-set : (m f k : ℕ) → k < binom m f → T (is_set m (set_at m f k)) × (length (set_at m f k) ≡ f)
set-at-set m f k h = rw (set_walk m f k h) (let (p, e) = set-from-part 0 m f k h in (part-set m (set_from 0 m f k) p, e))

-- ---- each the inverse of the other

-- the place of a set is below the number of the sets of its size
pub place-below : (m : ℕ) (I : List ℕ) → T (is_set m I) → place_of m I < binom m (length I)
unfolding place_of
place-below m I t = rw (← (many-sets (length I) 0 m)) (position-there I (sets_of m (length I)) (part-choose (set-part m I t))).0

pub set-at-place : (m : ℕ) (I : List ℕ) → T (is_set m I) → set_at m (length I) (place_of m I) ≡ I
unfolding set_at place_of
set-at-place m I t = (position-there I (sets_of m (length I)) (part-choose (set-part m I t))).1

place-of-from : (a n j k : ℕ) → k < binom n j → place_from a n (set_from a n j k) ≡ k
place-of-from = walk-ind (λ a n j k. place_from a n (set_from a n j k) ≡ k) place_none first later
  where
    first : (a n j k : ℕ) → k < binom n j → place_from (suc a) n (set_from (suc a) n j k) ≡ k → place_from a (suc n) (set_from a (suc n) (suc j) k) ≡ k
    first a n j k h e = rw (set-keep a n j k h) (place-keep a n (set_from (suc a) n j k) ∙ e)

    skipped : (a n j : ℕ) (I : List ℕ) → Part I (from (suc a) n) → length I ≡ suc j → place_from a (suc n) I ≡ binom n j + place_from (suc a) n I
    skipped a n j [] p e = absurd (omega arith)
    skipped a n j (i ∷ I) p e =
        place-skip a n i I (part-later a n i I p) ∙ ap (λ l. binom n l + place_from (suc a) n (i ∷ I)) (let q : length I ≡ j = omega arith in q)

    later : (a n j k : ℕ) → k < binom n (suc j) → place_from (suc a) n (set_from (suc a) n (suc j) k) ≡ k →
        place_from a (suc n) (set_from a (suc n) (suc j) (binom n j + k)) ≡ binom n j + k
    later a n j k h e =
        let (p, l) = set-from-part (suc a) n (suc j) k h in
        rw (set-skip a n j k) (skipped a n j (set_from (suc a) n (suc j) k) p l ∙ ap (λ i. binom n j + i) e)

pub place-of-set : (m f k : ℕ) → k < binom m f → place_of m (set_at m f k) ≡ k
place-of-set m f k h = place-walk m (set_at m f k) (set-at-set m f k h).0 ∙ rw (set_walk m f k h) (place-of-from 0 m f k h)

-- so a loop over the places meets every set once
pub every_set : (m f : ℕ) → map (λ k. set_at m f k) (from 0 (binom m f)) ≡ sets_of m f
unfolding set_at
every_set m f = rw (← (many-sets f 0 m)) (map-places (sets_of m f) [])

-- the set at a place, in the front of an array
pub set_front : (m f k : ℕ) → k < binom m f → take f (filled_to 24 0 (set_at m f k)) ≡ set_at m f k
set_front m f k h = take_at (set_at m f k) (replicate (24 - length (set_at m f k)) 0) f (set-at-set m f k h).1

pub set-held : (m f k : ℕ) → k < binom m f → f ≤ length (filled_to 24 0 (set_at m f k))
set-held m f k h = omega (arith, length-append (set_at m f k) (replicate (24 - length (set_at m f k)) 0), (set-at-set m f k h).1)
