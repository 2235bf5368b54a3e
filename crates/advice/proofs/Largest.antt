-- To lose f rather than g is better exactly where the row sums of f are larger, at the first length at which they differ.
use Rattle.exact.proofs.Ground.{true, false, Bool, cond, not, List, [], ◌∷◌, map, Memᴰ, ⊎_elim, ◌≡◌, ◌∙◌, sym, ap, refl, ap₂, subst, ℕ, ◌≤◌, ◌<◌}
use Rattle.exact.proofs.Ground.{◌+◌, ◌*◌, suc, zero, mul-pos, arith, eqb, T, pos, ℤ, nat_abs, ◌*ℤ◌, ◌+ℤ◌, ◌-ℤ◌, +ℤ_idr, length, ◌≤ℤ◌, lt_z}
use native.Mathlib.Nat.{mul-lt-mul_of_pos_right}
use lib.Signed.{◌<ℤ◌, lt_z_yes, lt_z_no, <ℤ_irrefl, clash_ℤ}
use Rattle.exact.specs.Lists.{from}
use Rattle.exact.specs.Fractions.{then, smaller, smaller_fraction}
use Rattle.exact.specs.declared.fractions.Fraction.{Fraction}
use Rattle.exact.specs.declared.fractions.Verdict.{Verdict}
use Rattle.exact.specs.declared.fractions.Verdict.TheVariants.{Better, Worse, Equal}
use Rattle.exact.proofs.Ring.{ring}
use Rattle.exact.proofs.Order.{≤-diff, ≤-antisym, ≤-total, is_pos}
use Rattle.exact.proofs.Verdicts.{smaller-ind, smaller-lt, smaller-gt, smaller-eq}
use Rattle.exact.proofs.Numbers.{length_from}
use Rattle.exact.proofs.Members.{keep-mem}
use Rattle.rules.specs.Plan.{Plan, columns, level, entry, every_column}
use Rattle.plan.specs.Good.{Sound}
use Rattle.words.specs.Words.{word, row_sum, diagonal}
use Rattle.words.proofs.Laws.{strike}
use Rattle.words.proofs.OfPlan.{word-not-negative}
use Rattle.compare.specs.Compare.{A, pattern, pattern_of, compare_patterns}
use Rattle.advice.specs.Advice.{without}
use Rattle.advice.specs.Rows.{larger, larger_row}
use Rattle.advice.specs.Given.{Rising}
use Rattle.advice.proofs.Without.{parted, without-length}

-- ---- one length

less-diff : (a b : ℤ) → a <ℤ b → (n : ℕ) × (a +ℤ pos (suc n) ≡ b)
less-diff a b h = ⊎_elim (λ l. let (n, e) = ≤-diff l in go n e) (λ l. clash_ℤ h l) (≤-total a b)
  where
    go : (n : ℕ) → a +ℤ pos n ≡ b → (n : ℕ) × (a +ℤ pos (suc n) ≡ b)
    go zero e = absurd (<ℤ_irrefl {a = a} (subst (λ z. a <ℤ z) (sym e ∙ +ℤ_idr a) h))
    go (suc n) e = (n, e)

larger-ind : (a b : ℤ) (P : Verdict → Type 0) → (b <ℤ a → P Better) → (a <ℤ b → P Worse) → (a ≡ b → P Equal) → P (larger a b)
larger-ind a b P f g h = go (lt_z b a) (lt_z a b) (λ t. lt_z_yes t) (λ t. lt_z_yes t) (λ t. lt_z_no t) (λ t. lt_z_no t)
  where
    go : (s t : Bool) → (T s → b <ℤ a) → (T t → a <ℤ b) → (T (not s) → a ≤ℤ b) → (T (not t) → b ≤ℤ a) → P (cond s Better (cond t Worse Equal))
    go true t i j k l = f (i tt)
    go false true i j k l = g (j tt)
    go false false i j k l = h (≤-antisym (k tt) (l tt))

-- over the same denominator
scaled : (a b d : ℕ) → 0 < d → smaller (a * d) (b * d) ≡ smaller a b
scaled a b d h = smaller-ind a b (λ v. smaller (a * d) (b * d) ≡ v)
    (λ l. smaller-lt (a * d) (b * d) (mul-lt-mul_of_pos_right l h))
    (λ l. smaller-gt (a * d) (b * d) (mul-lt-mul_of_pos_right l h))
    (λ e. smaller-eq (a * d) (b * d) (ap (λ n. n * d) e))

twice : (w r n e : ℤ) → w -ℤ pos 2 *ℤ r -ℤ e ≡ (w -ℤ pos 2 *ℤ (r +ℤ n) -ℤ e) +ℤ pos 2 *ℤ n
twice w r n e = simp ring

-- a row sum r without its own pair, which adds e
own_pair : (w r e : ℤ) → w -ℤ pos 2 *ℤ r +ℤ e ≡ w -ℤ pos 2 *ℤ (r -ℤ e) -ℤ e
own_pair w r e = simp ring

-- words a and b that are left of w by the row sums r and s over the other runs
module _ (w e : ℤ) where
  abbrev Left : ℤ → ℕ → Type 0
  Left r a = pos a ≡ w -ℤ pos 2 *ℤ r -ℤ e

  -- the smaller row sum leaves the larger word
  grows : (r s : ℤ) (a b : ℕ) → Left r a → Left s b → r <ℤ s → b < a
  grows r s a b p q l =
      let (n, d) = less-diff r s l in
      let k : pos a ≡ pos (b + 2 * suc n) =
      p ∙ twice w r (pos (suc n)) e ∙ ap (λ z. z +ℤ pos 2 *ℤ pos (suc n)) (ap (λ z. w -ℤ pos 2 *ℤ z -ℤ e) d ∙ sym q)
      in
      let f : a ≡ b + 2 * suc n = ap nat_abs k in
      omega arith

  by_row : (r s : ℤ) (a b : ℕ) → Left r a → Left s b → smaller a b ≡ larger r s
  by_row r s a b p q = larger-ind r s (λ v. smaller a b ≡ v)
      (λ l. smaller-lt a b (grows s r b a q p l))
      (λ l. smaller-gt a b (grows r s a b p q l))
      (λ d. smaller-eq a b (ap nat_abs (p ∙ ap (λ z. w -ℤ pos 2 *ℤ z -ℤ e) d ∙ sym q)))

abs-same : {z : ℤ} → pos 0 ≤ℤ z → pos (nat_abs z) ≡ z
abs-same h = let (n, e) = is_pos h in subst (λ z. pos (nat_abs z) ≡ z) e refl

-- ---- the losses of a plan

module _ (p : Plan) (rs : List ℕ) where
  -- the row sum of run f for length j, over the other runs
  abbrev pub row_of : ℕ → ℕ → ℤ
  row_of f j = row_sum (level p) (entry p) rs (every_column p) j f -ℤ diagonal (level p) (every_column p) j

  -- the row sums of run f, for the lengths 1 to m
  abbrev pub row_to : ℕ → List ℤ
  row_to f = map (row_of f) (from 1 (columns p))

  -- A_j of the runs but f
  abbrev share_of : ℕ → ℕ → Fraction
  share_of f = A (level p) (entry p) (without f rs) (every_column p)

module _ (p : Plan) (rs : List ℕ) (S : Sound p rs) (r : Rising rs) where
  pub sound-without : (f : ℕ) → Memᴰ f rs → Sound p (without f rs)
  sound-without f m =
      let inside : (g : ℕ) → Memᴰ g (without f rs) → Memᴰ g rs = keep-mem (λ g. not (eqb g f)) rs in
      record {
        columns-high = S.columns-high;
        level-low = S.level-low;
        level-high = S.level-high;
        small = S.small;
        few = omega (arith, S.few, without-length f rs r m);
        numbered = λ g k. S.numbered g (inside g k);
        inside = λ g k. S.inside g (inside g k);
        below = λ g k. S.below g (inside g k);
      }

  word-left : (f : ℕ) → Memᴰ f rs → (j : ℕ) →
      pos (nat_abs (word (level p) (entry p) (without f rs) (every_column p) j))
      ≡ word (level p) (entry p) rs (every_column p) j -ℤ pos 2 *ℤ row_of p rs f j -ℤ diagonal (level p) (every_column p) j
  word-left f m j =
      let P = parted f rs r m in
      let cols = every_column p in
      abs-same (word-not-negative p (without f rs) (sound-without f m) j)
      ∙ ap (λ l. word (level p) (entry p) l cols j) P.left
      ∙ strike (level p) (entry p) P.front f P.back cols j
      ∙ ap (λ l. word (level p) (entry p) l cols j -ℤ pos 2 *ℤ row_sum (level p) (entry p) l cols j f +ℤ diagonal (level p) cols j) (sym P.whole)
      ∙ own_pair (word (level p) (entry p) rs cols j) (row_sum (level p) (entry p) rs cols j f) (diagonal (level p) cols j)

  module _ (two : 2 ≤ length rs) (f g : ℕ) (mf : Memᴰ f rs) (mg : Memᴰ g rs) where
    compare-length : (j : ℕ) → smaller_fraction (share_of p rs f j) (share_of p rs g j) ≡ larger (row_of p rs f j) (row_of p rs g j)
    unfolding A smaller_fraction
    compare-length j =
        let d = length (without f rs) in
        let l = without-length f rs r mf in
        let e : length (without g rs) ≡ d = omega (arith, without-length g rs r mg) in
        let some : 0 < d = omega arith in
        rw e (scaled (share_of p rs f j).num (share_of p rs g j).num (d * d) (mul-pos some some))
        ∙ by_row (word (level p) (entry p) rs (every_column p) j) (diagonal (level p) (every_column p) j) (row_of p rs f j) (row_of p rs g j)
        (share_of p rs f j).num (share_of p rs g j).num (word-left f mf j) (word-left g mg j)

    compare-lengths : (js : List ℕ) →
        compare_patterns (map (share_of p rs f) js) (map (share_of p rs g) js) ≡ larger_row (map (row_of p rs f) js) (map (row_of p rs g) js)
    unfolding compare_patterns larger_row
    compare-lengths [] = refl
    compare-lengths (j ∷ js) = ap₂ then (compare-length j) (compare-lengths js)

    pub loss-row : compare_patterns (pattern_of p (without f rs)) (pattern_of p (without g rs)) ≡ larger_row (row_to p rs f) (row_to p rs g)
    unfolding pattern
    loss-row = rw (length_from 0 (columns p)) (compare-lengths (from 1 (columns p)))
