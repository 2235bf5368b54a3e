-- The sum over the parts of a set of columns: how large it is, and what each of its two halves is given.
use Rattle.exact.proofs.Ground.{List, [], ◌∷◌, map, mem-of_map, ◌≡◌, ◌∙◌, ap, refl, subst, ℕ, ◌≤◌, ◌<◌, ◌-◌, ◌+◌, ◌*◌, ◌^◌, le_trans, mul-le-mul}
use Rattle.exact.proofs.Ground.{mul-le-mul_right, arith, pos, ℤ, nat_abs, ◌*ℤ◌, ◌+ℤ◌, neg_ℤ, length, get_or, take, drop, replicate, length-append}
use Rattle.exact.proofs.Ground.{length-map, length-drop, take_at, take_all}
use native.Mathlib.Nat.{le_of_eq, mul-le-mul_left, pow-suc}
use lib.Pow.{pow_mono}
use Rattle.exact.specs.Lists.{from, filled_to}
use Rattle.exact.proofs.Order.{nat_abs-+, nat_abs-*, nat_abs-neg, nat_abs-*-≤}
use Rattle.exact.proofs.Numbers.{mem-from}
use Rattle.exact.proofs.Rooms.{length-numbered}
use Rattle.exact.proofs.Members.{get_or-mem}
use Rattle.exact.proofs.Lists.{mem-drop}
use Rattle.rules.specs.Plan.{most_runs}
use Rattle.counts.specs.Numbered.{most_numbers}
use Rattle.parts.specs.Parts.{squares_of, longer, over_parts, Digits, Weighed}
use Rattle.parts.proofs.Squared.{squares-bound}

-- ---- fewer numbers

pub digits-fewer : (n : ℕ) (ss ds : List ℕ) {a b : ℕ} → b ≤ a → Digits n a ss ds → Digits n b ss ds
digits-fewer n [] ds h D = le_trans h D
digits-fewer n (s ∷ ss) ds h (low, long, below, rest) = (low, long, below, digits-fewer n ss (drop n ds) (mul-le-mul_left s h) rest)

pub digits-most : (n most : ℕ) (ss ds : List ℕ) → Digits n most ss ds → most ≤ most_numbers
digits-most n most [] ds D = D
digits-most n most (s ∷ ss) ds (low, long, below, rest) = omega (arith, digits-most n (s * most) ss (drop n ds) rest, mul-le-mul_right most low)

-- without the first column
pub digits-rest : (n most s : ℕ) (ss ds : List ℕ) → Digits n most (s ∷ ss) ds → Digits n most ss (drop n ds)
digits-rest n most s ss ds (low, long, below, rest) =
    digits-fewer n ss (drop n ds) (let q : most ≤ s * most = omega (arith, mul-le-mul_right most low) in q) rest

-- ---- the weight of a part with one column more

pub weight-size : (s : ℕ) (w : ℤ) → nat_abs (neg_ℤ (pos s) *ℤ w) ≡ s * nat_abs w
weight-size s w = nat_abs-* (neg_ℤ (pos s)) w ∙ ap (λ k. k * nat_abs w) (nat_abs-neg (pos s))

-- ---- how large the sum is

-- for each part
abbrev pub largest : ℕ
largest = most_numbers * (most_runs * most_runs)

pub over-bound : (w : ℤ) (xs ss ds : List ℕ) → length xs ≤ most_runs → Digits (length xs) (nat_abs w) ss ds →
    nat_abs (over_parts w xs ss ds) ≤ 2 ^ length ss * largest
over-bound w xs [] ds h D =
    nat_abs-*-≤ w (squares_of xs) most_numbers (most_runs * most_runs) D (le_trans (squares-bound xs) (mul-le-mul h h))
over-bound w xs (s ∷ ss) ds h D =
    let rest = drop (length xs) ds in
    let e : length (longer s xs ds) ≡ length xs = length-numbered (λ k. get_or xs k 0 * s + get_or ds k 0) (length xs) in
    let D' : Digits (length (longer s xs ds)) (nat_abs (neg_ℤ (pos s) *ℤ w)) ss rest = rw (e, weight-size s w) D.3 in
    omega (
      arith,
      pow-suc 2 (length ss),
      nat_abs-+ (over_parts (neg_ℤ (pos s) *ℤ w) (longer s xs ds) ss rest) (over_parts w xs ss rest),
      over-bound (neg_ℤ (pos s) *ℤ w) (longer s xs ds) ss rest (omega arith) D',
      over-bound w xs ss rest h (digits-rest (length xs) (nat_abs w) s ss ds D),
    )

-- ---- what the function is given, and the two halves are

-- a part of a slice that goes to its end
pub from_place : (xs : List ℕ) (k : ℕ) → take (length xs - k) (drop k xs) ≡ drop k xs
from_place xs k = take_all (length xs - k) (drop k xs) (le_of_eq (length-drop k xs))

-- the numbers in the front of their room
module _ (s : ℕ) (xs ds room : List ℕ) (e : room ≡ filled_to 256 0 (longer s xs ds)) where
  long : length (longer s xs ds) ≡ length xs
  long = length-numbered (λ k. get_or xs k 0 * s + get_or ds k 0) (length xs)

  pub longer-front : take (length xs) room ≡ longer s xs ds
  longer-front = ap (take (length xs)) e ∙ take_at (longer s xs ds) (replicate (256 - length (longer s xs ds)) 0) (length xs) long

  pub longer-held : length xs ≤ length room
  longer-held = rw e (omega (arith, length-append (longer s xs ds) (replicate (256 - length (longer s xs ds)) 0), long))

module _ {I I' ds ds' xs xs' : List ℕ} {w w' : ℤ} (levels : List ℕ) (a : I ≡ I') (b : ds ≡ ds') (c : xs ≡ xs') (d : w ≡ w') where
  pub weighed-as : Weighed levels I' ds' xs' w' → Weighed levels I ds xs w
  weighed-as W = rw (a, b, c, d) W

  pub over-as : over_parts w xs (map (λ i. get_or levels i 0) I) ds ≡ over_parts w' xs' (map (λ i. get_or levels i 0) I') ds'
  over-as = rw (a, b, c, d)

module _ (levels columns ds xs : List ℕ) (w : ℤ) (W : Weighed levels columns ds xs w) where
  abbrev many : ℕ
  many = length xs

  pub weight-low : nat_abs w ≤ most_numbers
  weight-low = digits-most many (nat_abs w) (map (λ i. get_or levels i 0) columns) ds W.held

  -- no column is left
  pub leaf-small : nat_abs (w *ℤ squares_of xs) ≤ largest
  leaf-small = let b = over-bound w xs [] ds W.few-runs weight-low in omega arith

  pub over_none : length columns ≡ 0 → w *ℤ squares_of xs ≡ over_parts w xs (map (λ i. get_or levels i 0) columns) ds
  over_none e = go columns e
    where
      go : (I : List ℕ) → length I ≡ 0 → w *ℤ squares_of xs ≡ over_parts w xs (map (λ i. get_or levels i 0) I) ds
      go [] e = refl
      go (i ∷ I) e = absurd (omega arith)

  module _ (h : 0 < length columns) where
    abbrev s : ℕ
    s = get_or levels (get_or columns 0 0) 0

    pub first-inside : get_or columns 0 0 < length levels
    first-inside = W.inside (get_or columns 0 0) (get_or-mem columns 0 0 h)

    first-digits : Digits many (nat_abs w) (s ∷ map (λ i. get_or levels i 0) (drop 1 columns)) ds
    first-digits = go columns h W.held
      where
        go : (I : List ℕ) → 0 < length I → Digits many (nat_abs w) (map (λ i. get_or levels i 0) I) ds →
            Digits many (nat_abs w) (get_or levels (get_or I 0 0) 0 ∷ map (λ i. get_or levels i 0) (drop 1 I)) ds
        go [] h D = absurd (omega arith)
        go (i ∷ I) h D = D

    pub digits_long : many ≤ length ds
    digits_long = first-digits.1

    -- a number with its digit is below the new weight
    longer-below : (k : ℕ) → k < many → get_or xs k 0 * s + get_or ds k 0 < s * nat_abs w
    longer-below k l =
        omega (arith, first-digits.2 k l, mul-le-mul_right s (W.below (get_or xs k 0) (get_or-mem xs k 0 l)))

    pub longer-small : (k : ℕ) → k < many → get_or xs k 0 * s + get_or ds k 0 < most_numbers
    longer-small k l =
        omega (arith, longer-below k l, digits-most many (s * nat_abs w) (map (λ i. get_or levels i 0) (drop 1 columns)) (drop many ds) first-digits.3)

    pub weight-small : nat_abs (neg_ℤ (pos s) *ℤ w) ≤ most_numbers
    weight-small =
        rw (weight-size s w) (digits-most many (s * nat_abs w) (map (λ i. get_or levels i 0) (drop 1 columns)) (drop many ds) first-digits.3)

    fewer : length (drop 1 columns) ≤ 4
    fewer = omega (arith, length-drop 1 columns, W.few-columns)

    pub with_first : Weighed levels (drop 1 columns) (drop many ds) (longer s xs ds) (neg_ℤ (pos s) *ℤ w)
    with_first = record {
      few-runs = rw long W.few-runs;
      few-columns = fewer;
      inside = λ i m. W.inside i (mem-drop 1 columns i m);
      below = λ x m.
          let (k, n, e) = mem-of_map (λ k. get_or xs k 0 * s + get_or ds k 0) (from 0 many) m in
          rw (weight-size s w) (subst (λ x. x < s * nat_abs w) e (longer-below k (omega (arith, mem-from 0 many n))));
      held = rw (long, weight-size s w) first-digits.3;
    }
      where
        long : length (longer s xs ds) ≡ many
        long = length-numbered (λ k. get_or xs k 0 * s + get_or ds k 0) many

    pub without-first : Weighed levels (drop 1 columns) (drop many ds) xs w
    without-first = record {
      few-runs = W.few-runs;
      few-columns = fewer;
      inside = λ i m. W.inside i (mem-drop 1 columns i m);
      below = W.below;
      held = digits-rest many (nat_abs w) s (map (λ i. get_or levels i 0) (drop 1 columns)) ds first-digits;
    }

    pub over-step : over_parts (neg_ℤ (pos s) *ℤ w) (longer s xs ds) (map (λ i. get_or levels i 0) (drop 1 columns)) (drop many ds)
        +ℤ over_parts w xs (map (λ i. get_or levels i 0) (drop 1 columns)) (drop many ds) ≡ over_parts w xs (map (λ i. get_or levels i 0) columns) ds
    over-step = go columns h
      where
        go : (I : List ℕ) → 0 < length I → let t = get_or levels (get_or I 0 0) 0 in
            over_parts (neg_ℤ (pos t) *ℤ w) (longer t xs ds) (map (λ i. get_or levels i 0) (drop 1 I)) (drop many ds)
            +ℤ over_parts w xs (map (λ i. get_or levels i 0) (drop 1 I)) (drop many ds) ≡ over_parts w xs (map (λ i. get_or levels i 0) I) ds
        go [] h = absurd (omega arith)
        go (i ∷ I) h = refl

  pub over-small : nat_abs (over_parts w xs (map (λ i. get_or levels i 0) columns) ds) ≤ 16 * largest
  over-small =
      let ss = map (λ i. get_or levels i 0) columns in
      le_trans (over-bound w xs ss ds W.few-runs W.held)
      (mul-le-mul_right largest (pow_mono (let q : length ss ≤ 4 = omega (arith, length-map columns (λ i. get_or levels i 0), W.few-columns) in q)))
