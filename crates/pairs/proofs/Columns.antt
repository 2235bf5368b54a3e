-- Sums over the columns so far, and what one column more makes of them: a pair's scores, or levels less one.
use Rattle.exact.proofs.Ground.{List, [], ◌∷◌, map, ◌++◌, Memᴰ, ◌≡◌, ◌∙◌, sym, ap, refl, ℕ, ◌≤◌, ◌<◌, ◌-◌, ◌+◌, suc, zero, dec_lt, zero-add}
use Rattle.exact.proofs.Ground.{le_trans, mul-le-mul, le_refl, add-one, arith, pos, ℤ, nat_abs, length, get_or, replicate, get_or-eq_default}
use Rattle.exact.proofs.Ground.{ext_get_or}
use Rattle.exact.specs.Lists.{from, product}
use Rattle.exact.proofs.Numbers.{length_from, mem-from, from-add, from-snoc, length-map-from, map-from-at}
use Rattle.rules.specs.Plan.{Plan, columns, level, every_column, most_columns, highest_product}
use Rattle.plan.specs.Good.{Sound}
use Rattle.plan.proofs.Sound.{map-level}
use Rattle.sets.proofs.Choose.{esp, esp-snoc, esp-above}
use Rattle.pairs.specs.Given.{OfColumns, with_column}
use Rattle.pairs.proofs.Bound.{product-pos, esp-bound}
use Rattle.pairs.proofs.Rows.{length-with_column, with_column-first, with_column-next}

module _ (x : ℕ → ℤ) where
  -- the sums over the first i columns, of length 0 to 24, where column i has the number x i
  unfoldable pub so_far : ℕ → List ℤ
  so_far i = map (λ j. esp j (from 0 i) x) (from 0 (most_columns + 1))

  pub so-far-none : so_far 0 ≡ pos 1 ∷ replicate most_columns (pos 0)
  unfolding so_far
  so-far-none = refl

  pub length_so_far : (i : ℕ) → length (so_far i) ≡ most_columns + 1
  unfolding so_far
  length_so_far i = length-map-from (λ j. esp j (from 0 i) x) 0 (most_columns + 1)

  pub so-far-at : (i k : ℕ) → k < most_columns + 1 → get_or (so_far i) k (pos 0) ≡ esp k (from 0 i) x
  unfolding so_far
  so-far-at i k h = map-from-at (λ j. esp j (from 0 i) x) 0 (most_columns + 1) k (pos 0) h ∙ ap (λ j. esp j (from 0 i) x) (zero-add k)

  pub so_far_more : (i : ℕ) → with_column (x i) (so_far i) ≡ so_far (i + 1)
  so_far_more i =
      ext_get_or (pos 0) (with_column (x i) (so_far i)) (so_far (i + 1))
      (sym (length-with_column (x i) (so_far i) (length_so_far i)) ∙ length_so_far i ∙ sym (length_so_far (i + 1))) each
    where
      longer : (k : ℕ) → k < most_columns → get_or (with_column (x i) (so_far i)) (k + 1) (pos 0) ≡ get_or (so_far (i + 1)) (k + 1) (pos 0)
      longer k h =
          with_column-next (x i) (so_far i) (length_so_far i) k h
          ∙ rw (so-far-at i (k + 1) (omega arith), so-far-at i k (omega arith), so-far-at (i + 1) (k + 1) (omega arith), from-snoc 0 i, zero-add i, add-one k)
          (sym (esp-snoc k (from 0 i) i x))

      each : (k : ℕ) → k < length (with_column (x i) (so_far i)) → get_or (with_column (x i) (so_far i)) k (pos 0) ≡ get_or (so_far (i + 1)) k (pos 0)
      each zero h = with_column-first (x i) (so_far i) ∙ so-far-at i 0 (omega arith) ∙ sym (so-far-at (i + 1) 0 (omega arith))
      each (suc k) h =
          let l = length-with_column (x i) (so_far i) (length_so_far i) in
          rw (← (add-one k)) (longer k (omega (arith, length_so_far i)))

-- ---- of a plan whose levels are above the numbers x

product-prefix : (xs ys : List ℕ) (s : ℕ → ℕ) → ((y : ℕ) → Memᴰ y ys → 0 < s y) → product (map s xs) ≤ product (map s (xs ++ ys))
product-prefix [] ys s h = product-pos ys s h
product-prefix (x ∷ xs) ys s h = mul-le-mul (le_refl (s x)) (product-prefix xs ys s h)

pub level-product : (p : Plan) → product (map (level p) (every_column p)) ≡ product p.levels
level-product p = ap product (map-level p)

module _ (p : Plan) (rs : List ℕ) (S : Sound p rs) (x : ℕ → ℤ) (below : (i : ℕ) → i < columns p → nat_abs (x i) < level p i) where
  prefix : (i : ℕ) → i ≤ columns p → product (map (level p) (from 0 i)) ≤ highest_product
  prefix i h =
      let rest = from (0 + i) (columns p - i) in
      let d : columns p ≡ i + (columns p - i) = omega arith in
      let e : every_column p ≡ from 0 i ++ rest = ap (from 0) d ∙ from-add 0 i (columns p - i) in
      le_trans
      (product-prefix (from 0 i) rest (level p) (λ k m. let q = mem-from (0 + i) (columns p - i) m in S.level-low k (omega arith)))
      (rw (← e, level-product p) S.small)

  pub so-far-small : (i : ℕ) → i ≤ columns p → (j : ℕ) → nat_abs (esp j (from 0 i) x) ≤ highest_product
  so-far-small i h j =
      le_trans (esp-bound j (from 0 i) x (level p) (λ k m. let q = mem-from 0 i m in below k (omega arith))) (prefix i h)

  pub so-far-of : (i : ℕ) → i < columns p → OfColumns i (so_far x i)
  so-far-of i h = record {
    few = omega (arith, S.columns-high);
    long = length_so_far x i;
    small = λ k. small k (dec_lt k 25);
    above = λ k l. above k l (dec_lt k 25);
  }
    where
      past : (k : ℕ) → ¬ (k < 25) → get_or (so_far x i) k (pos 0) ≡ pos 0
      past k n = get_or-eq_default (so_far x i) (pos 0) (omega (arith, length_so_far x i))

      small : (k : ℕ) → Dec (k < 25) → nat_abs (get_or (so_far x i) k (pos 0)) ≤ highest_product
      small k (yes l) = rw (so-far-at x i k l) (so-far-small i (omega arith) k)
      small k (no n) = rw (past k n) (omega arith)

      above : (k : ℕ) → i < k → Dec (k < 25) → get_or (so_far x i) k (pos 0) ≡ pos 0
      above k h (yes l) = so-far-at x i k l ∙ esp-above k (from 0 i) x (rw (length_from 0 i) h)
      above k h (no n) = past k n
