-- Sums over the runs so far, for each word length: a row over its pairs.
use Rattle.exact.proofs.Ground.{List, [], ◌∷◌, Memᴰ, ◌≡◌, ◌∙◌, sym, ap, refl, ℕ, ◌≤◌, ◌<◌, ◌-◌, ◌+◌, ◌*◌, dec_lt, le_trans, mul-le-mul_right}
use Rattle.exact.proofs.Ground.{add-one, arith, pos, ℤ, nat_abs, ◌+ℤ◌, +ℤ_idl, +ℤ_idr, +ℤ_assoc, length, get_or, take, get_or-eq_default, take-suc}
use Rattle.exact.proofs.Ground.{get_or-take, ext_get_or}
use lib.ListN.{length-take}
use Rattle.exact.specs.Lists.{sum}
use Rattle.exact.proofs.Order.{nat_abs-+}
use Rattle.exact.proofs.Sums.{sum-++}
use Rattle.exact.proofs.Members.{take-mem}
use Rattle.exact.proofs.Numbers.{length-map-from, map-from-at, map-from-cong}
use Rattle.rules.specs.Plan.{most_columns, most_runs}
use Rattle.pairs.specs.Given.{Row, Part, added}
use Rattle.pairs.specs.Lists.{by_length, zeros}
use Rattle.pairs.proofs.Bound.{sum_bound}

-- ---- a number for each length

-- what stands at place k: the number for length k + 1, and past the end zero
by-length-at : (F : ℕ → ℤ) (k : ℕ) (P : ℤ → Type 0) → P (F (1 + k)) → P (pos 0) → P (get_or (by_length F) k (pos 0))
by-length-at F k P here past = go (dec_lt k 24)
  where
    go : Dec (k < 24) → P (get_or (by_length F) k (pos 0))
    go (yes l) = rw (map-from-at F 1 most_columns k (pos 0) l) here
    go (no n) = rw (get_or-eq_default (by_length F) (pos 0) {n = k} (omega (arith, length-map-from F 1 most_columns))) past

pub by-length-row : (F : ℕ → ℤ) (b : ℕ) → ((j : ℕ) → nat_abs (F j) ≤ b) → Row b (by_length F)
by-length-row F b h =
    record { long = length-map-from F 1 most_columns; small = λ k. by-length-at F k (λ z. nat_abs z ≤ b) (h (1 + k)) (omega arith) }

pub whole_part : {b : ℕ} {row : List ℤ} → Row b row → Part b row
whole_part R = record { short = omega (arith, R.long); small = R.small }

-- the first m of a row, of which the others are zero
module _ (F : ℕ → ℤ) (m : ℕ) (above : (j : ℕ) → m < j → F j ≡ pos 0) where
  first-at : (k : ℕ) → Dec (k < m) → get_or (take m (by_length F)) k (pos 0) ≡ get_or (by_length F) k (pos 0)
  first-at k (yes l) = get_or-take m (by_length F) k (pos 0) l
  first-at k (no n) =
      get_or-eq_default (take m (by_length F)) (pos 0) {n = k} (omega (arith, length-take m (by_length F)))
      ∙ sym (by-length-at F k (λ z. z ≡ pos 0) (above (1 + k) (omega arith)) refl)

  pub added-first : (row : List ℤ) → added row (take m (by_length F)) ≡ added row (by_length F)
  unfolding added
  added-first row = map-from-cong 0 most_columns (λ k. ap (λ z. get_or row k (pos 0) +ℤ z) (first-at k (dec_lt k m)))

  pub first_part : (b : ℕ) → Row b (by_length F) → Part b (take m (by_length F))
  first_part b R =
      record { short = omega (arith, length-take m (by_length F), R.long); small = λ k. rw (first-at k (dec_lt k m)) (R.small k) }

pub added-by-length : (F G : ℕ → ℤ) → added (by_length F) (by_length G) ≡ by_length (λ j. F j +ℤ G j)
unfolding added
added-by-length F G = refl

pub added-zeros : (F : ℕ → ℤ) → added zeros (by_length F) ≡ by_length F
added-zeros F = added-by-length (λ j. pos 0) F ∙ map-from-cong 1 most_columns (λ j. +ℤ_idl (F j))

-- the number of a row for length j
abbrev at : List ℤ → ℕ → ℤ
at row j = get_or row (j - 1) (pos 0)

pub added_none : (row : List ℤ) → length row ≡ most_columns → added row zeros ≡ row
unfolding added
added_none row long =
    map-from-cong 1 most_columns (λ j. +ℤ_idr (at row j))
    ∙ ext_get_or (pos 0) (by_length (at row)) row (length-map-from (at row) 1 most_columns ∙ sym long)
    (λ k h. map-from-at (at row) 1 most_columns k (pos 0) (omega (arith, length-map-from (at row) 1 most_columns))
    ∙ ap (λ i. get_or row i (pos 0)) (let e : 1 + k - 1 ≡ k = omega arith in e))

pub added-assoc : (row more most : List ℤ) → added (added row more) most ≡ added row (added more most)
unfolding added
added-assoc row more most = map-from-cong 1 most_columns (λ j. +ℤ_assoc (at row j) (at more j) (at most j))

pub added-row : (row more : List ℤ) (b c : ℕ) → Row b row → Row c more → Row (b + c) (added row more)
unfolding added
added-row row more b c B C =
    by-length-row (λ j. at row j +ℤ at more j) (b + c) (λ j. omega (arith, nat_abs-+ (at row j) (at more j), B.small (j - 1), C.small (j - 1)))

-- ---- summed over some runs, where run g gives F j g for length j

pub sum-next : {R : Type 0} (runs : List R) (k : ℕ) (d : R) → k < length runs → (F : R → ℤ) →
    sum (take k runs) F +ℤ F (get_or runs k d) ≡ sum (take (k + 1) runs) F
sum-next runs k d h F =
    ap (λ z. sum (take k runs) F +ℤ z) (sym (+ℤ_idr (F (get_or runs k d))))
    ∙ sym (sum-++ (take k runs) (get_or runs k d ∷ []) F)
    ∙ ap (λ l. sum l F) (sym (take-suc runs k d h) ∙ ap (λ n. take n runs) (sym (add-one k)))

module _ {R : Type 0} (F : ℕ → R → ℤ) where
  unfoldable pub totals : List R → List ℤ
  totals runs = by_length (λ j. sum runs (F j))

  pub totals-none : totals [] ≡ zeros
  unfolding totals
  totals-none = refl

  pub long-totals : (runs : List R) → length (totals runs) ≡ most_columns
  unfolding totals
  long-totals runs = length-map-from (λ j. sum runs (F j)) 1 most_columns

  pub totals-next : (runs : List R) (k : ℕ) (d : R) → k < length runs →
      added (totals (take k runs)) (by_length (λ j. F j (get_or runs k d))) ≡ totals (take (k + 1) runs)
  unfolding totals
  totals-next runs k d h =
      added-by-length (λ j. sum (take k runs) (F j)) (λ j. F j (get_or runs k d))
      ∙ map-from-cong 1 most_columns (λ j. sum-next runs k d h (F j))

  pub totals-row : (runs : List R) (k b c : ℕ) → length runs ≤ most_runs → most_runs * b ≤ c →
      ((g : R) → Memᴰ g runs → (j : ℕ) → nat_abs (F j g) ≤ b) → Row c (totals (take k runs))
  unfolding totals
  totals-row runs k b c few fits h =
      let short : length (take k runs) ≤ most_runs = omega (arith, length-take k runs) in
      by-length-row (λ j. sum (take k runs) (F j)) c
      (λ j. le_trans (sum_bound (take k runs) (F j) b (λ g m. h g (take-mem k runs g m) j)) (le_trans (mul-le-mul_right b short) fits))
