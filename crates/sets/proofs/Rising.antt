-- A set of columns of m is a list that rises below m, and so a part of the columns 0, 1, .., m - 1.
use Rattle.exact.proofs.Ground.{true, false, Bool, ◌&&◌, List, [], ◌∷◌, ⊎_elim, ◌≡◌, ◌∙◌, sym, ap, refl, subst, ℕ, ◌≤◌, ◌<◌, ◌+◌, suc, zero, le_refl}
use Rattle.exact.proofs.Ground.{eq-or-lt_of_le, add-one, arith, T, ltb, leb, ltb→lt, leb→le, length, get_or, drop, drop-cons, drop-length, le-ltb}
use Rattle.exact.proofs.Ground.{lt-ltb, le-leb, lt-leb}
use lib.Dec.{leb-zero, le→leb, lt→ltb}
use Rattle.exact.specs.Lists.{from, all, rise}
use Rattle.exact.proofs.Tests.{both, join}
use Rattle.rules.specs.Refusals.{is_set}
use Rattle.sets.proofs.Parts.{Part, none, skip, keep, part-nil}

-- whether the numbers rise from low on, below m
abbrev pub rises : ℕ → ℕ → List ℕ → Bool
rises low m [] = true
rises low m (x ∷ xs) = leb low x && (ltb x m && rises (suc x) m xs)

swap : (a b c d : Bool) → ((a && b) && (c && d)) ≡ (c && (a && (b && d)))
swap true b true d = refl
swap false b true d = refl
swap true true false d = refl
swap true false false d = refl
swap false b false d = refl

rise-rises : (m x : ℕ) (xs : List ℕ) → is_set m (x ∷ xs) ≡ (ltb x m && rises (suc x) m xs)
rise-rises m x [] = refl
rise-rises m x (y ∷ ys) =
    swap (ltb x y) (rise (y ∷ ys)) (ltb x m) (all (y ∷ ys) (λ i. ltb i m)) ∙ ap (λ b. ltb x m && (ltb x y && b)) (rise-rises m y ys)

pub set-rises : (m : ℕ) (I : List ℕ) → is_set m I ≡ rises 0 m I
set-rises m [] = refl
set-rises m (x ∷ xs) = rise-rises m x xs ∙ ap (λ b. b && (ltb x m && rises (suc x) m xs)) (sym (leb-zero x))

-- ---- against the parts of the columns from a on

rises-part : (a n m : ℕ) (I : List ℕ) → a + n ≡ m → T (rises a m I) → Part I (from a n)
rises-part a zero m [] e t = none
rises-part a zero m (x ∷ xs) e t =
    let (l, r) = both (leb a x) (ltb x m && rises (suc x) m xs) t in
    absurd (omega (arith, leb→le a x l, ltb→lt x m (both (ltb x m) (rises (suc x) m xs) r).0))
rises-part a (suc n) m [] e t = part-nil (from a (suc n))
rises-part a (suc n) m (x ∷ xs) e t =
    let (l, r) = both (leb a x) (ltb x m && rises (suc x) m xs) t in
    ⊎_elim
    (λ q. subst (λ i. Part (i ∷ xs) (from a (suc n))) q
    (keep (rises-part (suc a) n m xs (omega arith) (subst (λ i. T (rises (suc i) m xs)) (sym q) (both (ltb x m) (rises (suc x) m xs) r).1))))
    (λ h. skip (rises-part (suc a) n m (x ∷ xs) (omega arith) (join (leb (suc a) x) (ltb x m && rises (suc x) m xs) (le→leb (suc a) x h) r)))
    (eq-or-lt_of_le (leb→le a x l))

lower : (a m : ℕ) (I : List ℕ) → T (rises (suc a) m I) → T (rises a m I)
lower a m [] t = tt
lower a m (x ∷ xs) t =
    let (l, r) = both (leb (suc a) x) (ltb x m && rises (suc x) m xs) t in
    join (leb a x) (ltb x m && rises (suc x) m xs) (le→leb a x (omega (arith, leb→le (suc a) x l))) r

part-rises : (a n m : ℕ) (I : List ℕ) → a + n ≡ m → Part I (from a n) → T (rises a m I)
part-rises a zero m I e none = tt
part-rises a (suc n) m I e (keep {I = J} p) =
    join (leb a a) (ltb a m && rises (suc a) m J) (le→leb a a (le_refl a))
    (join (ltb a m) (rises (suc a) m J) (lt→ltb a m (omega arith)) (part-rises (suc a) n m J (omega arith) p))
part-rises a (suc n) m I e (skip p) = lower a m I (part-rises (suc a) n m I (omega arith) p)

pub set-part : (m : ℕ) (I : List ℕ) → T (is_set m I) → Part I (from 0 m)
set-part m I t = rises-part 0 m m I (omega arith) (subst T (set-rises m I) t)

pub part-set : (m : ℕ) (I : List ℕ) → Part I (from 0 m) → T (is_set m I)
part-set m I p = subst T (sym (set-rises m I)) (part-rises 0 m m I (omega arith) p)

-- ---- a loop over the columns of a list: whether those left rise from low on

module _ (low m i : ℕ) (xs : List ℕ) (h : i < length xs) where
  pub rises-lower : get_or xs i 0 < low → rises low m (drop i xs) ≡ false
  rises-lower l = rw (drop-cons xs i 0 h) (rw (lt-leb low (get_or xs i 0) l))

  pub rises-past : low ≤ get_or xs i 0 → m ≤ get_or xs i 0 → rises low m (drop i xs) ≡ false
  rises-past l k = rw (drop-cons xs i 0 h) (rw (le-leb low (get_or xs i 0) l, le-ltb (get_or xs i 0) m k))

  pub rises-on : low ≤ get_or xs i 0 → get_or xs i 0 < m → rises low m (drop i xs) ≡ rises (get_or xs i 0 + 1) m (drop (i + 1) xs)
  rises-on l k = rw (drop-cons xs i 0 h) (rw (le-leb low (get_or xs i 0) l, lt-ltb (get_or xs i 0) m k, add-one (get_or xs i 0), add-one i))

pub rises-all : (low m i : ℕ) (xs : List ℕ) → i ≡ length xs → rises low m (drop i xs) ≡ true
rises-all low m i xs e = rw (e, drop-length)
