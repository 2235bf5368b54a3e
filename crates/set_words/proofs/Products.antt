-- The product of a pair's scores: how large it is, and the turn of a loop over the columns.
use Rattle.exact.proofs.Ground.{List, [], ◌∷◌, map, Memᴰ, mem-head, mem-tail, ◌≡◌, sym, refl, subst, ℕ, ◌≤◌, ◌<◌, ◌*◌}
use Rattle.exact.proofs.Ground.{le_trans, mul-le-mul, le_refl, mul-le-mul_right, arith, ℤ, nat_abs, ◌*ℤ◌, length, get_or, take}
use Rattle.exact.proofs.Ground.{take-suc, ◌+◌, add-one}
use native.Mathlib.Nat.{one-mul}
use Rattle.exact.specs.Lists.{from, prod, product}
use Rattle.exact.proofs.Members.{take-mem}
use Rattle.exact.proofs.Ring.{*-one}
use Rattle.exact.proofs.Sums.{prod-++}
use Rattle.exact.proofs.Order.{nat_abs-*}
use Rattle.exact.proofs.Numbers.{map-places, mem-from}
use Rattle.rules.specs.Plan.{Plan, columns, level, highest_product}
use Rattle.sets.proofs.Parts.{Part, none, skip, keep, part-mem}
use Rattle.words.proofs.Bound.{score-bound}
use Rattle.counts.proofs.Turns.{product-take}
use Rattle.set_words.specs.Given.{Projection, Starts, entry_from, score_from, score_product}

module _ {A : Type 0} where
  module _ (s : A → ℕ) where
    prod-bound : (xs : List A) (f : A → ℤ) → ((x : A) → Memᴰ x xs → nat_abs (f x) < s x) → nat_abs (prod xs f) ≤ product (map s xs)
    prod-bound [] f h = le_refl 1
    prod-bound (x ∷ xs) f h =
        let first = h x (mem-head refl) in
        rw nat_abs-* (mul-le-mul (let q : nat_abs (f x) ≤ s x = omega arith in q) (prod-bound xs f (λ y m. h y (mem-tail m))))

    -- a factor above 0 makes no product smaller
    factor : (x : A) (n m : ℕ) → 0 < s x → n ≤ m → n ≤ s x * m
    factor x n m h l = le_trans l (subst (λ k. k ≤ s x * m) (one-mul m) (mul-le-mul_right m h))

    product-part : {I K : List A} → Part I K → ((x : A) → Memᴰ x K → 0 < s x) → product (map s I) ≤ product (map s K)
    product-part none h = le_refl 1
    product-part {I} {K = x ∷ K} (skip p) h =
        factor x (product (map s I)) (product (map s K)) (h x (mem-head refl)) (product-part p (λ y m. h y (mem-tail m)))
    product-part {K = x ∷ K} (keep p) h = mul-le-mul (le_refl (s x)) (product-part p (λ y m. h y (mem-tail m)))

module _ (p : Plan) (low : (i : ℕ) → i < columns p → 1 ≤ level p i) where
  -- some columns of a projection are one
  pub within-projection : {I K : List ℕ} → Part I K → Projection p K → Projection p I
  within-projection part P = record {
    inside = λ i m. P.inside i (part-mem part i m);
    small = le_trans (product-part (level p) part (λ i m. low i (P.inside i m))) P.small;
  }

  -- every set of columns of a plan is a projection
  pub part-projection : product p.levels ≤ highest_product → (I : List ℕ) → Part I (from 0 (columns p)) → Projection p I
  part-projection small I part =
      within-projection part (record {
        inside = λ i m. omega (arith, mem-from 0 (columns p) m);
        small = subst (λ l. product l ≤ highest_product) (sym (map-places p.levels 0)) small;
      })

module _ (p : Plan) (I : List ℕ) (P : Projection p I) (a b : ℕ) (A : Starts p I a) (B : Starts p I b) where
  score-small : (i : ℕ) → Memᴰ i I → nat_abs (score_from p a b i) < level p i
  score-small i m = score-bound (level p i) (entry_from p a i) (entry_from p b i) (A.below i m) (B.below i m)

  -- the product over the first k columns
  pub product_small : (k : ℕ) → nat_abs (score_product p (take k I) a b) ≤ highest_product
  product_small k =
      le_trans (prod-bound (level p) (take k I) (score_from p a b) (λ i m. score-small i (take-mem k I i m)))
      (le_trans (product-take (level p) k I (λ i m. let s = score-small i m in omega arith)) P.small)

  -- the turn of the loop
  pub product-turn : (k : ℕ) → k < length I →
      score_product p (take k I) a b *ℤ score_from p a b (get_or I k 0) ≡ score_product p (take (k + 1) I) a b
  product-turn k h =
      rw (add-one, take-suc I k 0, prod-++ (take k I) (get_or I k 0 ∷ []) (score_from p a b), *-one (score_from p a b (get_or I k 0))) refl
