-- Resolution and strength say the same, and a set of R columns has at most n²(s - 1), whatever the runs and the columns: levels from 1 up.
use Rattle.exact.proofs.Ground.{List, Memᴰ, ◌≡◌, sym, subst, ℕ, suc, zero, arith, T, pos, ℤ, ◌*ℤ◌, ◌-ℤ◌, length, ◌≤ℤ◌, lt_z, lt-ltb}
use Rattle.exact.proofs.Numbers.{mem-from}
use Rattle.exact.proofs.Order.{is_pos}
use Rattle.rules.specs.Plan.{Plan, columns, level, entry, every_column}
use Rattle.sets.specs.Sets.{choose}
use Rattle.sets.proofs.Parts.{part-mem, choose-part}
use Rattle.plan.specs.Good.{Sound}
use Rattle.words.specs.Words.{word_of, word}
use Rattle.words.proofs.Positive.{word-nonneg}
use Rattle.counts.specs.Counts.{strength}
use Rattle.parts.specs.Parts.{NoneShorter}
use Rattle.counts.proofs.Balance.{strength-is}
use Rattle.words.specs.Entries.{AllBelow}
use Rattle.counts.proofs.Wordless.{resolution-strength}
use Rattle.parts.proofs.OnlyWord.{chosen-only, only-ceiling}
use Rattle.resolution.specs.Resolution.{resolution, resolution_in}
use Rattle.resolution.proofs.Resolved.{resolution-is}

not-above : (w : ℤ) → pos 0 ≤ℤ w → ¬ (T (lt_z (pos 0) w)) → w ≡ pos 0
not-above w h n = let (k, e) = is_pos h in go k e
  where
    go : (k : ℕ) → pos k ≡ w → w ≡ pos 0
    go zero e = sym e
    go (suc k) e = absurd (n (subst (λ w. T (lt_z (pos 0) w)) e (rw (lt-ltb 0 (suc k) (omega arith)) tt)))

above : (w : ℤ) → T (lt_z (pos 0) w) → ¬ (w ≡ pos 0)
above w t e = subst (λ w. T (lt_z (pos 0) w)) e t

module _ {R C : Type 0} (level : C → ℕ) (entry : R → C → ℕ) (rs : List R) (cols : List C) (v : AllBelow level entry rs cols) where
  -- every word shorter than R is zero
  pub none-shorter : NoneShorter level entry rs cols (resolution level entry rs cols)
  none-shorter j l k =
      not-above (word level entry rs cols j) (word-nonneg level entry rs cols v j) ((resolution-is level entry rs cols).least j l k)

  -- R is the strength and one; where every word is zero, the strength is m and the search for R has passed m
  pub resolution-is-strength : resolution level entry rs cols ≡ suc (strength level entry rs cols)
  resolution-is-strength =
      let r = resolution level entry rs cols in
      let I = resolution-is level entry rs cols in
      resolution-strength level entry rs cols v r (strength level entry rs cols) I.low (omega (arith, I.high))
      (λ h. above (word level entry rs cols r) (I.above_zero h)) (λ j l k. none-shorter j l (omega (arith, I.low))) (strength-is level entry rs cols)

  -- W(I) of a set of R columns is at most n²(s - 1), for each level s in it
  pub word-at-most : (I : List C) → Memᴰ I (choose (resolution level entry rs cols) cols) → (i : C) → Memᴰ i I →
      word_of level entry rs I ≤ℤ (pos (length rs) *ℤ pos (length rs) *ℤ (pos (level i) -ℤ pos 1))
  word-at-most I m =
      only-ceiling level entry rs I (λ i n. v i (part-mem (choose-part (resolution level entry rs cols) cols I m).0 i n))
      (chosen-only level entry rs cols v (resolution level entry rs cols) none-shorter I m)

-- ---- of some runs of a plan

module _ (p : Plan) (rs : List ℕ) (S : Sound p rs) where
  pub all-below : AllBelow (level p) (entry p) rs (every_column p)
  all-below i m = let h = mem-from 0 (columns p) m in (S.level-low i (omega arith), λ f n. S.below f n i (omega arith))

  -- what a listing prints of a plan agrees, and what is asked of its standing runs
  pub plan-agrees : resolution_in p rs ≡ suc (strength (level p) (entry p) rs (every_column p))
  plan-agrees = resolution-is-strength (level p) (entry p) rs (every_column p) all-below
