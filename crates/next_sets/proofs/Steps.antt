-- The loops that make a set of the one before it: the search for the column to raise, from behind, and the row written from there on.
use Rattle.exact.proofs.Ground.{true, false, Bool, cond, ◌&&◌, List, [], ◌∷◌, map, ◌++◌, append_assoc, ◌≡◌, ◌∙◌, sym, ap, refl, subst, ℕ}
use Rattle.exact.proofs.Ground.{◌≤◌, ◌<◌, ◌-◌, ◌+◌, suc, zero, add-one, arith, eqb, T, length, get_or, take, drop, set, length-append, length-map}
use Rattle.exact.proofs.Ground.{length-drop, length-take-le, take_at, drop-cons, drop-length, get_or-take, ne_eqb, eq-eqb}
use native.Mathlib.Nat.{sub-zero}
use lib.Seq.{take-take, drop-drop}
use borrow.Rule.Slice.PartMut.{put_mid}
use Rattle.exact.specs.Lists.{from, into}
use Rattle.exact.proofs.Numbers.{length_from, mem-from}
use Rattle.exact.proofs.Members.{get_or-mem}
use Rattle.rules.specs.Refusals.{is_set}
use Rattle.sets.specs.Sets.{binom, set_at}
use Rattle.sets.proofs.Among.{chosen, chosen-places}
use Rattle.sets.proofs.Parts.{part-mem}
use Rattle.sets.proofs.Rising.{set-part}
use Rattle.sets.proofs.Places.{set-at-set}
use Rattle.next_sets.specs.Next.{is_last, next_set}
use Rattle.next_sets.proofs.Next.{next-set, first-set}

-- ---- the search from behind

and-false : (b : Bool) → (b && false) ≡ false
and-false true = refl
and-false false = refl

drop-last : (m q : ℕ) (I : List ℕ) → is_last m (drop q I) ≡ false → is_last m I ≡ false
drop-last m zero I h = h
drop-last m (suc q) [] h = h
drop-last m (suc q) (x ∷ J) h = rw (drop-last m q J h) (and-false (eqb x (m - suc (length J))))

-- where the columns behind place p are as high as they can be: nothing before it can be raised instead
pub raise-first : (m : ℕ) (I : List ℕ) (p : ℕ) → p ≡ 0 → 0 < length I → is_last m (drop (p + 1) I) ≡ true →
    next_set m I ≡ take p I ++ from (suc (get_or I p 0)) (length I - p)
raise-first m [] p e h t = absurd (omega arith)
raise-first m (x ∷ J) p e h t = rw e (rw (subst (λ q. is_last m (drop (q + 1) (x ∷ J)) ≡ true) e t, sub-zero (suc (length J))))

raise-here : (m : ℕ) (I : List ℕ) (p : ℕ) → p < length I → is_last m (drop (suc p) I) ≡ true → is_last m (drop p I) ≡ false →
    next_set m I ≡ take p I ++ from (suc (get_or I p 0)) (length I - p)
raise-here m [] p h t f = absurd (omega arith)
raise-here m (x ∷ J) zero h t f = rw (t, sub-zero (suc (length J)))
raise-here m (x ∷ J) (suc q) h t f =
    let e : suc (length J) - suc q ≡ length J - q = omega arith in
    rw (drop-last m q J f, e) (ap (λ l. x ∷ l) (raise-here m J q (omega arith) t f))

pub raise-at : (m : ℕ) (I : List ℕ) (p : ℕ) → p < length I → is_last m (drop (p + 1) I) ≡ true → is_last m (drop p I) ≡ false →
    next_set m I ≡ take p I ++ from (suc (get_or I p 0)) (length I - p)
raise-at m I p h t f = raise-here m I p h (rw add-one at t) f

module _ (m : ℕ) (I : List ℕ) (p : ℕ) (h : p < length I) (few : length I ≤ m) where
  highest : m - suc (length (drop (suc p) I)) ≡ m - length I + p
  highest = omega (arith, length-drop (suc p) I)

  pub last_step : get_or I p 0 ≡ m - length I + p → is_last m (drop (p + 1) I) ≡ true → is_last m (drop p I) ≡ true
  last_step e t = rw (drop-cons I p 0 h) (rw (eq-eqb (get_or I p 0) (m - suc (length (drop (suc p) I))) (e ∙ sym highest)) (rw add-one at t))

  pub last-stop : (get_or I p 0 ≡ m - length I + p → ⊥) → is_last m (drop p I) ≡ false
  last-stop n = rw (drop-cons I p 0 h) (rw (ne_eqb (get_or I p 0) (m - suc (length (drop (suc p) I))) (λ e. n (e ∙ highest))))

pub last_none : (m : ℕ) (I : List ℕ) (p : ℕ) → p ≡ length I → is_last m (drop p I) ≡ true
last_none m I p e = rw (e, drop-length)

-- ---- a row of numbers, written from place p on

pub put_row : (S : List ℕ) (p f a : ℕ) → p ≤ f → f ≤ length S → {part I : List ℕ} → part ≡ from a (f - p) → I ≡ take p S ++ from a (f - p) →
    put_mid p (f - p) S part ≡ into I S
put_row S p f a h k x y =
    let long : length (take p S ++ from a (f - p)) ≡ p + (f - p) = simp (length-append, length_from) (omega (arith, length-take-le p S (omega arith))) in
    rw (x, y, long, drop-drop (f - p) p S) (sym (append_assoc (take p S) (from a (f - p)) _))

-- ---- a set in the front of a room

module _ (m f : ℕ) (S : List ℕ) (h : f ≤ length S) where
  pub column-below : T (is_set m (take f S)) → (p : ℕ) → p < f → get_or S p 0 < m
  column-below t p l =
      let k : p < length (take f S) = rw (length-take-le f S h) l in
      rw (← (get_or-take f S p 0 l))
      (let q = mem-from 0 m (part-mem (set-part m (take f S) t) _ (get_or-mem (take f S) p 0 k)) in omega arith)

  pub next_row : (p : ℕ) → p < f → next_set m (take f S) ≡ take p (take f S) ++ from (suc (get_or (take f S) p 0)) (length (take f S) - p) →
      next_set m (take f S) ≡ take p S ++ from (get_or S p 0 + 1) (f - p)
  next_row p l e = e ∙ rw (take-take p f S (omega arith), get_or-take f S p 0 l, length-take-le f S h, add-one (get_or S p 0))

pub no-columns : (m f : ℕ) (S : List ℕ) → f ≡ 0 → S ≡ into (next_set m (take f S)) S
no-columns m f S e = rw e

pub length-next : (m : ℕ) (I : List ℕ) → length (next_set m I) ≡ length I
length-next m [] = refl
length-next m (x ∷ J) = go (is_last m J) (length-next m J)
  where
    go : (b : Bool) → length (next_set m J) ≡ length J → length (cond b (from (suc x) (suc (length J))) (x ∷ next_set m J)) ≡ suc (length J)
    go true e = length_from (suc x) (suc (length J))
    go false e = ap suc e

-- ---- a walk over the sets: at place k the front of the room of w places holds the set at place k

pub record At (w m f k : ℕ) (room : List ℕ) : Type 0 where
  pub wide : length room ≡ w
  pub here : k < binom m f → take f room ≡ set_at m f k

module _ (w m f : ℕ) (fits : f ≤ w) where
  pub walk_start : (room : List ℕ) → f ≤ m → length room ≡ w → At w m f 0 (into (from 0 f) room)
  unfolding set_at
  walk_start room h e = record {
    wide = simp (length-append, length-drop, length_from) (omega arith);
    here = λ l. take_at (from 0 f) (drop (length (from 0 f)) room) f (length_from 0 f) ∙ sym (first-set 0 m f h);
  }

  module _ (k : ℕ) (room : List ℕ) (A : At w m f k room) (l : k < binom m f) where
    -- what `next_set` asks
    pub walk-set : T (is_set m (take f room))
    walk-set = rw (A.here l) (set-at-set m f k l).0

    pub walk-next : At w m f (k + 1) (into (next_set m (take f room)) room)
    walk-next =
        let e : length (next_set m (take f room)) ≡ f = length-next m (take f room) ∙ length-take-le f room (omega (arith, A.wide)) in
        record {
          wide = simp (length-append, length-drop) (omega (arith, e, A.wide));
          here = λ n. take_at (next_set m (take f room)) (drop (length (next_set m (take f room))) room) f e ∙ ap (next_set m) (A.here l) ∙ sym (next-set m f k n);
        }

-- ---- the columns at the places of a set

module _ (cols : List ℕ) (t k : ℕ) (h : k < binom (length cols) t) where
  module _ (w : ℕ) (room : List ℕ) (fits : t ≤ w) (A : At w (length cols) t k room) where
    front_long : length (take t room) ≡ t
    front_long = length-take-le t room (omega (arith, A.wide))

    -- what `among` asks
    pub places-inside : (i : ℕ) → i < length (take t room) → get_or (take t room) i 0 < length cols
    places-inside i l = rw (get_or-take t room i 0 (rw front_long at l))
        (column-below (length cols) t room (omega (arith, A.wide)) (walk-set w (length cols) t fits k room A h) i (rw front_long at l))

    -- what it writes
    pub places-chosen : map (λ i. get_or cols i 0) (take t room) ≡ chosen cols t k
    places-chosen = rw (A.here h) (sym (chosen-places cols t k h))

    pub front-chosen : (set : List ℕ) → take t (into (map (λ i. get_or cols i 0) (take t room)) set) ≡ chosen cols t k
    front-chosen set = take_at (map (λ i. get_or cols i 0) (take t room)) _ t (length-map (take t room) (λ i. get_or cols i 0) ∙ front_long) ∙ places-chosen

pub into-long : (X room : List ℕ) → length X ≤ length room → length (into X room) ≡ length room
into-long X room h = simp (length-append, length-drop) (omega arith)
