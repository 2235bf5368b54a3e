-- The set at the next place is the set after the one at this place.
use Rattle.exact.proofs.Ground.{true, false, List, [], ◌∷◌, map, ◌++◌, ◌≡◌, ◌∙◌, sym, ap, refl, ℕ, ◌≤◌, ◌<◌, ◌-◌, ◌+◌, suc, zero, dec_lt, arith}
use Rattle.exact.proofs.Ground.{length, get_or, length-map, get_or-append, ne_eqb, eq-eqb}
use mathlib.Core.Logic.{dite}
use native.Mathlib.Nat.{suc-add, add-suc}
use lib.Seq.{get_or-append-add}
use Rattle.exact.specs.Lists.{from}
use Rattle.exact.proofs.Numbers.{length_from}
use Rattle.exact.proofs.Members.{get_or-mem}
use Rattle.exact.proofs.Lists.{get_d_map}
use Rattle.sets.specs.Sets.{choose, binom, set_at}
use Rattle.sets.proofs.Parts.{choose-part}
use Rattle.sets.proofs.Pascal.{many-sets, binom-above}
use Rattle.next_sets.specs.Next.{is_last, next_set}

-- the set at place k of the sets of j of the n columns from a on
abbrev at : ℕ → ℕ → ℕ → ℕ → List ℕ
at a n j k = get_or (choose j (from a n)) k []

at_long : (a n j k : ℕ) → k < binom n j → length (at a n j k) ≡ j
at_long a n j k h = (choose-part j (from a n) _ (get_or-mem (choose j (from a n)) k [] (rw (many-sets j a n) h))).1

at-keep : (a n j k : ℕ) → k < binom n j → at a (suc n) (suc j) k ≡ a ∷ at (suc a) n j k
at-keep a n j k h =
    let Js = choose j (from (suc a) n) in
    let l : k < length Js = rw (many-sets j (suc a) n) h in
    get_or-append (map (λ I. a ∷ I) Js) (choose (suc j) (from (suc a) n)) [] k (rw (length-map Js (λ I. a ∷ I)) l)
    ∙ get_d_map (λ I. a ∷ I) Js k [] [] l

at-skip : (a n j k : ℕ) → at a (suc n) (suc j) (binom n j + k) ≡ at (suc a) n (suc j) k
at-skip a n j k =
    let Js = map (λ I. a ∷ I) (choose j (from (suc a) n)) in
    let Ks = choose (suc j) (from (suc a) n) in
    let many : binom n j ≡ length Js = sym (length-map (choose j (from (suc a) n)) (λ I. a ∷ I) ∙ many-sets j (suc a) n) in
    ap (λ i. get_or (Js ++ Ks) (i + k) []) many ∙ get_or-append-add Js Ks k []

-- ---- the first and the last set

binom-some : (n j : ℕ) → j ≤ n → 0 < binom n j
binom-some n zero h = omega arith
binom-some zero (suc j) h = absurd (omega arith)
binom-some (suc n) (suc j) h = omega (arith, binom-some n j (omega arith))

binom-all : (n : ℕ) → binom n n ≡ 1
binom-all zero = refl
binom-all (suc n) = rw (binom-all n, binom-above n (suc n) (omega arith))

pub first-set : (a n j : ℕ) → j ≤ n → at a n j 0 ≡ from a j
first-set a n zero h = refl
first-set a zero (suc j) h = absurd (omega arith)
first-set a (suc n) (suc j) h = at-keep a n j 0 (binom-some n j (omega arith)) ∙ ap (λ I. a ∷ I) (first-set (suc a) n j (omega arith))

-- the columns of a set are its own, so the highest set of j of those below m is last
last_row : (m a j : ℕ) → a + j ≡ m → is_last m (from a j) ≡ true
last_row m a zero h = refl
last_row m a (suc j) h =
    let e : a ≡ m - suc (length (from (suc a) j)) = omega (arith, length_from (suc a) j) in
    rw (eq-eqb a (m - suc (length (from (suc a) j))) e) (last_row m (suc a) j (omega arith))

last-place : (a n j k : ℕ) → k + 1 ≡ binom n j → is_last (a + n) (at a n j k) ≡ true
last-place a n zero k h = rw (let e : k ≡ 0 = omega arith in e)
last-place a zero (suc j) k h = absurd (omega arith)
last-place a (suc n) (suc j) k h =
    dite (dec_lt j n)
    (λ l.
    let s : 0 < binom n (suc j) = binom-some n (suc j) (omega arith) in
    let e : k ≡ binom n j + (k - binom n j) = omega arith in
    ap (λ i. is_last (a + suc n) (at a (suc n) (suc j) i)) e
    ∙ ap (is_last (a + suc n)) (at-skip a n j (k - binom n j))
    ∙ ap (λ m. is_last m (at (suc a) n (suc j) (k - binom n j))) (add-suc a n ∙ sym (suc-add a n))
    ∙ last-place (suc a) n (suc j) (k - binom n j) (omega arith))
    (λ l.
    let b : binom n (suc j) ≡ 0 = binom-above n (suc j) (omega arith) in
    let q : k < binom n j = omega arith in
    let i : j ≡ n = go q l in
    let z : k ≡ 0 = omega (arith, ap (binom n) i ∙ binom-all n) in
    ap (is_last (a + suc n)) (at-keep a n j k q ∙ ap (λ i. a ∷ at (suc a) n j i) z ∙ ap (λ I. a ∷ I) (first-set (suc a) n j (omega arith)))
    ∙ last_row (a + suc n) a (suc j) (omega arith))
  where
    go : k < binom n j → (j < n → ⊥) → j ≡ n
    go q l = dite (dec_lt n j) (λ u. absurd (omega (arith, binom-above n j u))) (λ u. omega arith)

-- a set that is not at the last place is not the last set
not_last : (a n j k : ℕ) → k + 1 < binom n j → is_last (a + n) (at a n j k) ≡ false
not_last a n zero k h = absurd (omega arith)
not_last a zero (suc j) k h = absurd (omega arith)
not_last a (suc n) (suc j) k h =
    dite (dec_lt k (binom n j))
    (λ l.
    let few : j < n = go l in
    let d : a ≡ a + suc n - suc (length (at (suc a) n j k)) → ⊥ = λ e. omega (arith, at_long (suc a) n j k l) in
    ap (is_last (a + suc n)) (at-keep a n j k l)
    ∙ rw (ne_eqb a (a + suc n - suc (length (at (suc a) n j k))) d))
    (λ l.
    let e : k ≡ binom n j + (k - binom n j) = omega arith in
    ap (λ i. is_last (a + suc n) (at a (suc n) (suc j) i)) e
    ∙ ap (is_last (a + suc n)) (at-skip a n j (k - binom n j))
    ∙ ap (λ m. is_last m (at (suc a) n (suc j) (k - binom n j))) (add-suc a n ∙ sym (suc-add a n))
    ∙ not_last (suc a) n (suc j) (k - binom n j) (omega arith))
  where
    go : k < binom n j → j < n
    go l =
        dite (dec_lt j n) (λ u. u)
        (λ u. dite (dec_lt n j) (λ v. absurd (omega (arith, binom-above n j v)))
        (λ v.
        let i : j ≡ n = omega arith in
        absurd (omega (arith, ap (binom n) i ∙ binom-all n, binom-above n (suc j) (omega arith)))))

-- ---- the law

next-at : (a n j k : ℕ) → k + 1 < binom n j → at a n j (k + 1) ≡ next_set (a + n) (at a n j k)
next-at a n zero k h = absurd (omega arith)
next-at a zero (suc j) k h = absurd (omega arith)
next-at a (suc n) (suc j) k h =
    dite (dec_lt (k + 1) (binom n j))
    (λ l.
    at-keep a n j (k + 1) l ∙ ap (λ I. a ∷ I) (next-at (suc a) n j k l ∙ ap (λ m. next_set m (at (suc a) n j k)) m-same)
    ∙ sym (ap (next_set (a + suc n)) (at-keep a n j k (omega arith))
    ∙ rw (ap (λ m. is_last m (at (suc a) n j k)) (sym m-same) ∙ not_last (suc a) n j k l)))
    (λ l. dite (dec_lt k (binom n j))
    (λ q.
    let z : k + 1 ≡ binom n j + 0 = omega arith in
    let s : j < n = some (omega arith) in
    ap (at a (suc n) (suc j)) z ∙ at-skip a n j 0 ∙ first-set (suc a) n (suc j) s
    ∙ sym (ap (next_set (a + suc n)) (at-keep a n j k q)
    ∙ rw (ap (λ m. is_last m (at (suc a) n j k)) (sym m-same) ∙ last-place (suc a) n j k (omega arith), at_long (suc a) n j k q)))
    (λ q.
    let e : k ≡ binom n j + (k - binom n j) = omega arith in
    let e' : k + 1 ≡ binom n j + (k - binom n j + 1) = omega arith in
    ap (at a (suc n) (suc j)) e' ∙ at-skip a n j (k - binom n j + 1)
    ∙ next-at (suc a) n (suc j) (k - binom n j) (omega arith)
    ∙ ap (λ m. next_set m (at (suc a) n (suc j) (k - binom n j))) m-same
    ∙ sym (ap (λ i. next_set (a + suc n) (at a (suc n) (suc j) i)) e ∙ ap (next_set (a + suc n)) (at-skip a n j (k - binom n j)))))
  where
    m-same : suc a + n ≡ a + suc n
    m-same = suc-add a n ∙ sym (add-suc a n)

    some : 0 < binom n (suc j) → j < n
    some p = dite (dec_lt j n) (λ u. u) (λ u. absurd (omega (arith, binom-above n (suc j) (omega arith))))

-- the set at place k + 1 is the set after the set at place k
pub next-set : (m f k : ℕ) → k + 1 < binom m f → set_at m f (k + 1) ≡ next_set m (set_at m f k)
unfolding set_at
next-set m f k h = next-at 0 m f k h ∙ ap (λ i. next_set i (at 0 m f k)) (let e : 0 + m ≡ m = omega arith in e)
