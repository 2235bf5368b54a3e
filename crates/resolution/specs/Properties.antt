-- What R, the greatest ratio and GR in thousandths are, said without a search and without roots.
use Rattle.std.specs.Prelude.{◌≡◌, ◌⊎◌, ℕ, ◌+◌, ◌*◌, ◌-◌, ◌≤◌, ◌<◌, T, pos, length}
use mathlib.Core.List.{List, Memᴰ}
use Rattle.std.specs.Int.Signed.{lt_z}
use Rattle.exact.specs.Fractions.{zero_fraction, smaller_fraction}
use Rattle.exact.specs.declared.fractions.Fraction.{Fraction}
use Rattle.exact.specs.declared.fractions.Verdict.TheVariants.{Better}
use Rattle.words.specs.Words.{word}

module _ {R C : Type 0} (level : C → ℕ) (entry : R → C → ℕ) (rs : List R) (cols : List C) where
  -- the smallest j from 1 to m with W_j above zero, and m + 1 where there is none
  pub record IsResolution (r : ℕ) : Type 0 where
    pub low : 1 ≤ r
    pub high : r ≤ length cols + 1
    pub above_zero : r ≤ length cols → T (lt_z (pos 0) (word level entry rs cols r))
    pub least : (j : ℕ) → 1 ≤ j → j < r → ¬ (T (lt_z (pos 0) (word level entry rs cols j)))

-- g is one of the fractions, or 0/1, and none of them is greater
pub record IsGreatest (xs : List Fraction) (g : Fraction) : Type 0 where
  pub among : (g ≡ zero_fraction) ⊎ Memᴰ g xs
  pub none_above : (x : Fraction) → Memᴰ x xs → ¬ (smaller_fraction g x ≡ Better)

-- the square root of the ratio lies above (q - 1) / 1000 and not above q / 1000; of ratio 0 q is 0
pub record IsRoot (x : Fraction) (q : ℕ) : Type 0 where
  pub high : q ≤ 1000
  pub enough : 1_000_000 * x.num ≤ q * q * x.den
  pub close : 0 < q → (q - 1) * (q - 1) * x.den < 1_000_000 * x.num
  pub least : (k : ℕ) → k < q → k * k * x.den < 1_000_000 * x.num
  pub zero : x.num ≡ 0 → q ≡ 0

-- t is GR = R + 1 - √(num / den) in thousandths: never above it, less than one thousandth below it, and exact for ratio 0
pub record IsThousandths (R : ℕ) (x : Fraction) (t : ℕ) : Type 0 where
  pub not-above : 1_000_000 * x.num ≤ (1000 * (R + 1) - t) * (1000 * (R + 1) - t) * x.den
  pub close : 0 < x.num → (1000 * (R + 1) - (t + 1)) * (1000 * (R + 1) - (t + 1)) * x.den < 1_000_000 * x.num
  pub exact : x.num ≡ 0 → t ≡ 1000 * (R + 1)
