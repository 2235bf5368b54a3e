-- The binomials: how many sets there are, how large a binomial is, and Pascal's rule over the whole table by one computation.
use Rattle.exact.proofs.Ground.{List, [], ◌∷◌, map, ◌++◌, ◌≡◌, ◌∙◌, ap, refl, ℕ, ◌≤◌, ◌<◌, ◌+◌, ◌*◌, suc, zero, dec_le, zero-add, add-zero, arith, T}
use Rattle.exact.proofs.Ground.{leb, leb→le, length, get_or, replicate, length-append, length-map, get_or-append}
use lib.ListN.{get_or-replicate}
use lib.Seq.{get_or-append-add}
use Rattle.exact.specs.Lists.{from, all}
use Rattle.exact.proofs.Numbers.{length_from}
use Rattle.exact.proofs.Tests.{all-mem}
use Rattle.exact.proofs.Members.{get_or-mem}
use Rattle.sets.specs.Sets.{choose, binom}

module _ {A : Type 0} where
  pub length-choose : (j : ℕ) (xs : List A) → length (choose j xs) ≡ binom (length xs) j
  length-choose zero xs = refl
  length-choose (suc j) [] = refl
  length-choose (suc j) (x ∷ xs) =
      length-append (map (λ I. x ∷ I) (choose j xs)) (choose (suc j) xs)
      ∙ rw (length-map (choose j xs) (λ I. x ∷ I), length-choose j xs, length-choose (suc j) xs)

-- how many sets of j of the n columns from a on
pub many-sets : (j a n : ℕ) → length (choose j (from a n)) ≡ binom n j
many-sets j a n = length-choose j (from a n) ∙ ap (λ k. binom k j) (length_from a n)

-- none where b is above a
pub binom-above : (a b : ℕ) → a < b → binom a b ≡ 0
binom-above a zero h = absurd (omega arith)
binom-above zero (suc b) h = refl
binom-above (suc a) (suc b) h = rw (binom-above a b (omega arith), binom-above a (suc b) (omega arith))

-- ---- the table of 25 rows of 25, by Pascal's rule

-- the next row: each entry is the sum of the two above it, x being the one above and to the left of the first
abbrev pub next : ℕ → List ℕ → List ℕ
next x [] = []
next x (y ∷ ys) = (x + y) ∷ next y ys

-- n rows, from this one on
abbrev pub rows : ℕ → List ℕ → List ℕ
rows zero row = []
rows (suc n) row = row ++ rows n (next 0 row)

unfoldable pub table : List ℕ
table = rows 25 (1 ∷ replicate 24 0)

length-next : (x : ℕ) (ys : List ℕ) → length (next x ys) ≡ length ys
length-next x [] = refl
length-next x (y ∷ ys) = ap suc (length-next y ys)

next-first : (x : ℕ) (ys : List ℕ) → 0 < length ys → get_or (next x ys) 0 0 ≡ x + get_or ys 0 0
next-first x [] h = absurd (omega arith)
next-first x (y ∷ ys) h = refl

next-later : (x b : ℕ) (ys : List ℕ) → suc b < length ys → get_or (next x ys) (suc b) 0 ≡ get_or ys b 0 + get_or ys (suc b) 0
next-later x b [] h = absurd (omega arith)
next-later x zero (y ∷ ys) h = next-first y ys (omega arith)
next-later x (suc b) (y ∷ ys) h = next-later y b ys (omega arith)

-- the row of a: a over 0, a over 1, ..
record RowOf (a : ℕ) (row : List ℕ) : Type 0 where
  wide : length row ≡ 25
  entries : (b : ℕ) → b < 25 → get_or row b 0 ≡ binom a b

next_row : (a : ℕ) (row : List ℕ) → RowOf a row → RowOf (suc a) (next 0 row)
next_row a row R = record { wide = length-next 0 row ∙ R.wide; entries = at }
  where
    at : (b : ℕ) → b < 25 → get_or (next 0 row) b 0 ≡ binom (suc a) b
    at zero h = next-first 0 row (omega (arith, R.wide)) ∙ rw (R.entries 0 (omega arith))
    at (suc b) h = next-later 0 b row (omega (arith, R.wide)) ∙ rw (R.entries b (omega arith), R.entries (suc b) h)

row-entry : (n d a b : ℕ) (row : List ℕ) → RowOf a row → d < n → b < 25 → get_or (rows n row) (d * 25 + b) 0 ≡ binom (a + d) b
row-entry zero d a b row R h l = absurd (omega arith)
row-entry (suc n) zero a b row R h l =
    rw (zero-add b, add-zero a) (get_or-append row (rows n (next 0 row)) 0 b (omega (arith, R.wide)) ∙ R.entries b l)
row-entry (suc n) (suc d) a b row R h l =
    let e : suc d * 25 + b ≡ length row + (d * 25 + b) = omega (arith, R.wide) in
    let k : suc a + d ≡ a + suc d = omega arith in
    ap (λ i. get_or (row ++ rows n (next 0 row)) i 0) e ∙ get_or-append-add row (rows n (next 0 row)) (d * 25 + b) 0
    ∙ row-entry n d (suc a) b (next 0 row) (next_row a row R) (omega arith) l ∙ ap (λ a. binom a b) k

first-row : RowOf 0 (1 ∷ replicate 24 0)
first-row = record { wide = refl; entries = at }
  where
    at : (b : ℕ) → b < 25 → get_or (1 ∷ replicate 24 0) b 0 ≡ binom 0 b
    at zero h = refl
    at (suc b) h = get_or-replicate 24 b 0 0 (omega arith)

-- so every entry is the binomial
pub table-binom : (a b : ℕ) → a ≤ 24 → b ≤ 24 → get_or table (a * 25 + b) 0 ≡ binom a b
unfolding table
table-binom a b h l = row-entry 25 a 0 b (1 ∷ replicate 24 0) first-row (omega arith) (omega arith) ∙ ap (λ k. binom k b) (zero-add a)

-- the bounds of the table's entries, by computation
small : T (all table (λ x. leb x 2_704_156)) × (length table ≡ 625)
unfolding table
small = (tt, refl)

-- no binomial of the table is above that of 24 and 12
pub binom-most : (a b : ℕ) → a ≤ 24 → binom a b ≤ 2_704_156
binom-most a b h = go (dec_le b 24)
  where
    go : Dec (b ≤ 24) → binom a b ≤ 2_704_156
    go (yes l) =
        rw (← (table-binom a b h l))
        (leb→le _ 2_704_156 (all-mem (λ x. leb x 2_704_156) table small.0 _ (get_or-mem table (a * 25 + b) 0 (omega (arith, small.1)))))
    go (no l) = rw (binom-above a b (omega arith)) (omega arith)
