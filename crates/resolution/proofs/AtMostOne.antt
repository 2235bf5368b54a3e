-- The largest ratio is at most 1, so that no plan is refused for one above it.
use Rattle.exact.proofs.Ground.{true, false, Bool, cond, List, map, Memᴰ, mem-of_map, ◌≡◌, sym, subst, ℕ, ◌≤◌, ◌-◌, ◌*◌, arith, pos, ℤ, nat_abs}
use Rattle.exact.proofs.Ground.{◌*ℤ◌, ◌-ℤ◌, length, length-map, ◌≤ℤ◌, le-ltb}
use Rattle.exact.specs.Lists.{smallest, holds}
use Rattle.exact.specs.Fractions.{zero_fraction, reduced}
use Rattle.exact.specs.declared.fractions.Fraction.{Fraction}
use Rattle.exact.proofs.Order.{is_pos, pos-le}
use Rattle.exact.proofs.Reduced.{reduced-at-most-one}
use Rattle.rules.specs.Plan.{Plan, level, entry, every_column}
use Rattle.sets.specs.Sets.{choose}
use Rattle.sets.proofs.Parts.{part-mem, choose-part}
use Rattle.plan.specs.Good.{Sound}
use Rattle.words.specs.Words.{word_of}
use Rattle.words.proofs.Positive.{word_of-nonneg}
use Rattle.words.specs.Entries.{AllBelow}
use Rattle.set_words.specs.SetWords.{relative_of}
use Rattle.set_words.proofs.Values.{smallest-mem}
use Rattle.resolution.specs.Resolution.{resolution, largest_ratio, ratio_in}
use Rattle.resolution.proofs.Resolved.{resolution-is}
use Rattle.ratios.proofs.Greatest.{greatest-of}
use Rattle.resolution.proofs.Agreement.{word-at-most, all-below}

less-one : (s : ℕ) → 1 ≤ s → pos s -ℤ pos 1 ≡ pos (s - 1)
less-one s h = rw (le-ltb s 1 h)

-- a word that is not negative, and its size
size-at-most : (w : ℤ) (b : ℕ) → pos 0 ≤ℤ w → w ≤ℤ pos b → nat_abs w ≤ b
size-at-most w b h k = let (n, e) = is_pos h in subst (λ w. nat_abs w ≤ b) e (pos-le (subst (λ w. w ≤ℤ pos b) (sym e) k))

-- no more above the line than below it
abbrev pub AtMostOne : Fraction → Type 0
AtMostOne x = x.num ≤ x.den

module _ {R C : Type 0} (level : C → ℕ) (entry : R → C → ℕ) (rs : List R) (cols : List C) (v : AllBelow level entry rs cols) where
  module _ (I : List C) (m : Memᴰ I (choose (resolution level entry rs cols) cols)) where
    below : AllBelow level entry rs I
    below i n = v i (part-mem (choose-part (resolution level entry rs cols) cols I m).0 i n)

    -- by the smallest level
    word-smallest : nat_abs (word_of level entry rs I) ≤ length rs * length rs * (smallest (map level I) - 1)
    word-smallest =
        let n = length rs in
        let (i, k, e) = mem-of_map level I (smallest-mem (map level I)
        (omega (arith, length-map I level, (choose-part (resolution level entry rs cols) cols I m).1, (resolution-is level entry rs cols).low))) in
        subst (λ s. nat_abs (word_of level entry rs I) ≤ n * n * (s - 1)) e
        (size-at-most (word_of level entry rs I) (n * n * (level i - 1)) (word_of-nonneg level entry rs I below)
        (subst (λ z. word_of level entry rs I ≤ℤ (pos n *ℤ pos n *ℤ z)) (less-one (level i) (below i k).0)
        (word-at-most level entry rs cols v I m i k)))

    set-at-most-one : AtMostOne (relative_of level entry rs I)
    unfolding relative_of
    set-at-most-one = go (holds 1 (map level I))
      where
        go : (b : Bool) →
            AtMostOne (cond b zero_fraction (reduced (nat_abs (word_of level entry rs I)) (length rs * length rs * (smallest (map level I) - 1))))
        go true = omega arith
        go false = reduced-at-most-one _ _ word-smallest

  pub largest-at-most-one : AtMostOne (largest_ratio level entry rs cols)
  unfolding largest_ratio
  largest-at-most-one =
      greatest-of AtMostOne (map (relative_of level entry rs) (choose (resolution level entry rs cols) cols)) (omega arith) (λ x m.
      let (I, k, e) = mem-of_map (relative_of level entry rs) (choose (resolution level entry rs cols) cols) m in
      subst AtMostOne e (set-at-most-one I k))

-- of some runs of a plan
pub ratio-at-most-one : (p : Plan) (rs : List ℕ) → Sound p rs → AtMostOne (ratio_in p rs)
ratio-at-most-one p rs S = largest-at-most-one (level p) (entry p) rs (every_column p) (all-below p rs S)
