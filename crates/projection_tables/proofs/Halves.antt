-- The search by halves among lines that rise.
use Rattle.exact.proofs.Ground.{Bool, not, List, [], ◌∷◌, ◌≡◌, sym, refl, subst, ℕ, ◌≤◌, ◌<◌, ◌+◌, suc, zero}
use Rattle.exact.proofs.Ground.{arith, T, length, get_or, dec_lt}
use mathlib.Core.Logic.{dite}
use Rattle.exact.specs.Lists.{first}
use Rattle.exact.specs.Fractions.{smaller_fraction, is_better, ShortDenominator}
use Rattle.exact.specs.declared.fractions.Fraction.{Fraction}
use Rattle.exact.specs.declared.fractions.Verdict.{Verdict}
use Rattle.exact.specs.declared.fractions.Verdict.TheVariants.{Better, Worse, Equal}
use Rattle.exact.proofs.Lawful.{fractions}
use Rattle.exact.proofs.Members.{get_or-mem}
use Rattle.exact.proofs.Searches.{first-is, first-unique}
use Rattle.projection_tables.specs.Tables.{fraction_at}
use Rattle.projection_tables.specs.Given.{Comparable, not_smaller}
use Rattle.projection_tables.specs.Properties.{Rising}

-- none below `low` passes, and the one at `high` does
pub record Halved (test : ℕ → Bool) (used low high : ℕ) : Type 0 where
  pub ordered : low ≤ high
  pub within : high ≤ used
  pub none_below : (k : ℕ) → k < low → ¬ (T (test k))
  pub passes : high < used → T (test high)

pub halved-found : (test : ℕ → Bool) (used low high : ℕ) → low ≡ high → Halved test used low high → low ≡ first test 0 used
halved-found test used low high e H =
    first-unique test 0 used low (first test 0 used)
    (record {
      from-a = omega arith;
      within = omega (arith, H.within);
      passes = λ l. subst (λ k. T (test k)) (sym e) (H.passes (omega arith));
      none_before = λ k h l. H.none_below k l;
    }) (first-is test 0 used)

not-better : (r : Verdict) → ¬ (r ≡ Better) → T (not (is_better r))
not-better Better n = absurd (n refl)
not-better Worse n = tt
not-better Equal n = tt

module _ (nums dens : List ℕ) (used : ℕ) (v : Fraction) (C : Comparable nums dens used) (S : ShortDenominator v) (low high middle : ℕ)
    (H : Halved (not_smaller nums dens v) used low high) (a : low ≤ middle) (b : middle < high) where
  -- a line that is smaller: so are all before it
  pub halved-up : smaller_fraction (fraction_at nums dens middle) v ≡ Better → Halved (not_smaller nums dens v) used (middle + 1) high
  halved-up here = record {
    ordered = omega arith;
    within = H.within;
    none_below = λ k l t. subst (λ x. T (not (is_better x))) (all-smaller k l) t;
    passes = H.passes;
  }
    where
      proper : (k : ℕ) → k < used → 0 < (fraction_at nums dens k).den
      proper k l = (C.short k l).above_zero

      all-smaller : (k : ℕ) → k < middle + 1 → smaller_fraction (fraction_at nums dens k) v ≡ Better
      all-smaller k l = dite (dec_lt k middle)
          (λ h. fractions.trans (fraction_at nums dens k) (fraction_at nums dens middle) v (proper k (omega (arith, H.within))) (proper middle (omega (arith, H.within))) S.above_zero
          (C.rising k middle h (omega (arith, H.within))) here)
          (λ h. let z : k ≡ middle = omega arith in subst (λ j. smaller_fraction (fraction_at nums dens j) v ≡ Better) (sym z) here)

  -- a line that is not
  pub halved-down : ¬ (smaller_fraction (fraction_at nums dens middle) v ≡ Better) → Halved (not_smaller nums dens v) used low middle
  halved-down n = record {
    ordered = a;
    within = omega (arith, H.within);
    none_below = H.none_below;
    passes = λ h. not-better (smaller_fraction (fraction_at nums dens middle) v) n;
  }

-- rising values, by their places
pub rising-at : (xs : List Fraction) (d : Fraction) → Rising xs → (j k : ℕ) → j < k → k < length xs → smaller_fraction (get_or xs j d) (get_or xs k d) ≡ Better
rising-at [] d r j k h l = absurd (omega arith)
rising-at (x ∷ xs) d (b, r) j zero h l = absurd (omega arith)
rising-at (x ∷ xs) d (b, r) zero (suc k) h l = b (get_or xs k d) (get_or-mem xs k d (omega arith))
rising-at (x ∷ xs) d (b, r) (suc j) (suc k) h l = rising-at xs d r j k (omega arith) (omega arith)
