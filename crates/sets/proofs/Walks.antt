-- The two walks over the columns as loops: what holds before each column, and that a turn keeps it.
use Rattle.exact.proofs.Ground.{List, [], ◌∷◌, ◌++◌, mem-head, ◌≡◌, ◌∙◌, sym, ap, refl, ℕ, ◌≤◌, ◌<◌, ◌-◌, ◌+◌, suc, zero, add-one, arith, T, length}
use Rattle.exact.proofs.Ground.{get_or, drop, take, take-suc, take_all, length-drop, drop-cons, drop-length}
use native.Mathlib.Nat.{sub-zero}
use Rattle.exact.specs.Lists.{from}
use Rattle.exact.proofs.Numbers.{length_from, mem-from}
use Rattle.rules.specs.Refusals.{is_set}
use Rattle.sets.specs.Sets.{binom, set_at, place_of}
use Rattle.sets.proofs.Parts.{Part, skip, keep, part-mem, part_length}
use Rattle.sets.proofs.Pascal.{binom-most}
use Rattle.sets.proofs.Rising.{set-part}
use Rattle.sets.proofs.Places.{place_from, place_none, place-keep, place-skip, place-walk, place-below, part-later}
use Rattle.sets.proofs.Places.{set_from, set-keep, set-skip, set_walk, set-at-set}

-- one less is left after the present column
less : (m a : ℕ) → a < m → m - a ≡ suc (m - (a + 1))
less m a h = omega arith

-- ---- the place: before column a, t columns of I are behind, and p sets stand before those that are left

pub record Placing (m : ℕ) (I : List ℕ) (a t p : ℕ) : Type 0 where
  pub taken : t ≤ length I
  pub left : Part (drop t I) (from a (m - a))
  pub passed : p + place_from a (m - a) (drop t I) ≡ place_of m I

pub set-size : (m : ℕ) (I : List ℕ) → T (is_set m I) → length I ≤ m
set-size m I s = omega (arith, part_length (set-part m I s), length_from 0 m)

pub placing-start : (m : ℕ) (I : List ℕ) → T (is_set m I) → Placing m I 0 0 0
placing-start m I s = record { taken = omega arith; left = rw (sub-zero m) (set-part m I s); passed = rw (sub-zero m, place-walk m I s) (omega arith) }

module _ (m : ℕ) (I : List ℕ) (a t p : ℕ) (P : Placing m I a t p) where
  pub placing-fits : m ≤ 24 → T (is_set m I) → p ≤ 2_704_156
  placing-fits h s = omega (arith, P.passed, place-below m I s, binom-most m (length I) h)

  pub placing-end : t ≡ length I → p ≡ place_of m I
  placing-end e =
      let d : drop t I ≡ [] = rw e (drop-length I) in
      omega (arith, P.passed, ap (place_from a (m - a)) d ∙ place_none a (m - a))

keep-turn : (a n x : ℕ) (J : List ℕ) → x ≡ a → Part (x ∷ J) (from a (suc n)) →
    Part J (from (a + 1) n) × (place_from a (suc n) (x ∷ J) ≡ place_from (a + 1) n J)
keep-turn a n x J e (keep p) = rw (add-one a) (p, place-keep a n J)
keep-turn a n x J e (skip p) = absurd (omega (arith, part-later a n x J p))

skip-turn : (a n x : ℕ) (J : List ℕ) → (x ≡ a → ⊥) → Part (x ∷ J) (from a (suc n)) →
    Part (x ∷ J) (from (a + 1) n) × (place_from a (suc n) (x ∷ J) ≡ binom n (length J) + place_from (a + 1) n (x ∷ J))
skip-turn a n x J e (keep p) = absurd (e refl)
skip-turn a n x J e (skip p) = rw (add-one a) (p, place-skip a n x J (part-later a n x J p))

module _ (m : ℕ) (I : List ℕ) (a t p : ℕ) (P : Placing m I a t p) (h : t < length I) where
  split : drop t I ≡ get_or I t 0 ∷ drop (t + 1) I
  split = rw (add-one t) (drop-cons I t 0 h)

  pub column-left : a < m
  column-left = omega (arith, mem-from a (m - a) (part-mem (rw split at P.left) (get_or I t 0) (mem-head refl)))

  present : Part (get_or I t 0 ∷ drop (t + 1) I) (from a (suc (m - (a + 1))))
  present = rw (split, less m a column-left) at P.left

  total : p + place_from a (suc (m - (a + 1))) (get_or I t 0 ∷ drop (t + 1) I) ≡ place_of m I
  total = rw (split, less m a column-left) at P.passed

  pub placing-keep : get_or I t 0 ≡ a → Placing m I (a + 1) (t + 1) p
  placing-keep e =
      let (q, d) = keep-turn a (m - (a + 1)) (get_or I t 0) (drop (t + 1) I) e present in
      record { taken = omega arith; left = q; passed = rw (← d) total }

  pub placing-skip : (get_or I t 0 ≡ a → ⊥) → Placing m I (a + 1) t (p + binom (m - a - 1) (length I - t - 1))
  placing-skip e =
      let (q, d) = skip-turn a (m - (a + 1)) (get_or I t 0) (drop (t + 1) I) e present in
      let n : m - a - 1 ≡ m - (a + 1) = omega arith in
      let l : length I - t - 1 ≡ length (drop (t + 1) I) = omega (arith, length-drop (t + 1) I) in
      record { taken = omega arith; left = rw split q; passed = rw (split, n, l) (omega (arith, d, total)) }

-- ---- the set at place k: before column a, t columns are written, and the rest is the set at place r of the columns from a on

pub record Choosing (m j k a t r : ℕ) (row : List ℕ) : Type 0 where
  pub taken : t ≤ j
  pub below : r < binom (m - a) (j - t)
  pub left : drop t (set_at m j k) ≡ set_from a (m - a) (j - t) r
  pub written : row ≡ take t (set_at m j k)

pub choosing-start : (m j k : ℕ) → k < binom m j → Choosing m j k 0 0 k []
choosing-start m j k h = record {
  taken = omega arith;
  below = rw (sub-zero m, sub-zero j) h;
  left = rw (sub-zero m, sub-zero j) (set_walk m j k h);
  written = refl;
}

pub choosing-end : (m j k a t r : ℕ) (row : List ℕ) → k < binom m j → Choosing m j k a t r row → t ≡ j → row ≡ set_at m j k
choosing-end m j k a t r row h C e = C.written ∙ take_all t (set_at m j k) (omega (arith, e, (set-at-set m j k h).1))

-- where sets are left, columns are left
some_left : (n j r : ℕ) → 0 < j → r < binom n j → 0 < n
some_left n zero r h l = absurd (omega arith)
some_left zero (suc j) r h l = absurd (omega arith)
some_left (suc n) (suc j) r h l = omega arith

-- the member at t, and those after it
next-member : (S : List ℕ) (t a : ℕ) (R : List ℕ) → drop t S ≡ a ∷ R → (t < length S) × (get_or S t 0 ≡ a) × (drop (t + 1) S ≡ R)
next-member S t a R e =
    let h : t < length S = omega (arith, length-drop t S, ap length e) in
    let d : drop t S ≡ get_or S t 0 ∷ drop (t + 1) S = rw (add-one t) (drop-cons S t 0 h) in
    (h, cc, cc)

skip-choice : (a n j r : ℕ) → binom n j ≤ r → r < binom (suc n) (suc j) →
    (r - binom n j < binom n (suc j)) × (set_from a (suc n) (suc j) r ≡ set_from (a + 1) n (suc j) (r - binom n j))
skip-choice a n j r h l =
    let e : r ≡ binom n j + (r - binom n j) = omega arith in
    (omega arith, ap (set_from a (suc n) (suc j)) e ∙ rw (add-one a) (set-skip a n j (r - binom n j)))

module _ (m j k a t r : ℕ) (row : List ℕ) (C : Choosing m j k a t r row) (l : t < j) where
  pub place-left : a < m
  place-left = omega (arith, some_left (m - a) (j - t) r (omega arith) C.below)

  members : drop t (set_at m j k) ≡ set_from a (suc (m - (a + 1))) (suc (j - (t + 1))) r
  members = rw (less m a place-left, less j t l) at C.left

  pub choosing-keep : r < binom (m - a - 1) (j - t - 1) → Choosing m j k (a + 1) (t + 1) r (row ++ a ∷ [])
  choosing-keep h =
      let n : m - a - 1 ≡ m - (a + 1) = omega arith in
      let i : j - t - 1 ≡ j - (t + 1) = omega arith in
      let b : r < binom (m - (a + 1)) (j - (t + 1)) = rw (n, i) at h in
      let (s, g, d) = next-member (set_at m j k) t a _ (members ∙ set-keep a (m - (a + 1)) (j - (t + 1)) r b) in
      record {
        taken = omega arith;
        below = b;
        left = d ∙ ap (λ c. set_from c (m - (a + 1)) (j - (t + 1)) r) (sym (add-one a));
        written = rw (C.written, ← g, add-one t) (sym (take-suc (set_at m j k) t 0 s));
      }

  pub choosing-skip : binom (m - a - 1) (j - t - 1) ≤ r → Choosing m j k (a + 1) t (r - binom (m - a - 1) (j - t - 1)) row
  choosing-skip h =
      let n : m - a - 1 ≡ m - (a + 1) = omega arith in
      let i : j - t - 1 ≡ j - (t + 1) = omega arith in
      let b : r < binom (suc (m - (a + 1))) (suc (j - (t + 1))) = rw (less m a place-left, less j t l) at C.below in
      let (u, e) = skip-choice a (m - (a + 1)) (j - (t + 1)) r (rw (n, i) at h) b in
      record { taken = C.taken; below = rw (n, i, less j t l) u; left = rw (n, i, less j t l) (members ∙ e); written = C.written }
