-- Document 01, "Strength, resolution, projections": resolution, the largest ratio, generalized resolution.
-- GR is that of source document 003, section 3, used here for every R from 1.
use Rattle.std.specs.Prelude.{Result, List, [], ◌∷◌, map, ℕ, ◌+◌, ◌*◌, ◌-◌, leb, pos, length}
use Rattle.std.specs.Int.Signed.{lt_z}
use Rattle.exact.specs.Lists.{first}
use Rattle.exact.specs.declared.fractions.Fraction.{Fraction}
use Rattle.rules.specs.Plan.{Plan, columns, level, entry, every_column}
use Rattle.rules.specs.declared.Refusal.{Refusal}
use Rattle.rules.specs.Refusals.{Check, refusal, answered, no_resolution}
use Rattle.sets.specs.Sets.{choose}
use Rattle.words.specs.Words.{word}
use Rattle.set_words.specs.SetWords.{relative_of}
unfoldable pub use Rattle.ratios.specs.Ratios.{greatest}
use Rattle.resolution.specs.declared.GeneralizedResolution.{GeneralizedResolution}

-- q, the smallest whole number for which q² · den is at least 1,000,000 · num; the largest ratio is at most 1 (`ratio-at-most-one`), so q is at most 1000
unfoldable pub root_of : Fraction → ℕ
root_of x = first (λ q. leb (1_000_000 * x.num) (q * q * x.den)) 0 1000

-- GR in thousandths, 1000(R + 1) - q
abbrev pub thousandths_of : ℕ → Fraction → ℕ
thousandths_of R x = 1000 * (R + 1) - root_of x

module _ {R C : Type 0} (level : C → ℕ) (entry : R → C → ℕ) (rs : List R) (cols : List C) where
  -- R, the smallest j from 1 with W_j above zero; m + 1 where there is none
  unfoldable pub resolution : ℕ
  resolution = first (λ j. lt_z (pos 0) (word level entry rs cols j)) 1 (length cols)

  -- the largest ratio: the greatest relative value over sets of R columns
  unfoldable pub largest_ratio : Fraction
  largest_ratio = greatest (map (relative_of level entry rs) (choose resolution cols))

-- ---- of some runs of a plan

module _ (p : Plan) (rs : List ℕ) where
  abbrev pub resolution_in : ℕ
  resolution_in = resolution (level p) (entry p) rs (every_column p)

  abbrev pub ratio_in : Fraction
  ratio_in = largest_ratio (level p) (entry p) rs (every_column p)

  -- every answer that rests on R asks that there is one
  abbrev pub resolution_checks : List Check
  resolution_checks = no_resolution (columns p) resolution_in ∷ []

  unfoldable pub resolution_answer : (List Check → List Check) → Result ℕ Refusal
  resolution_answer start = answered (refusal (start resolution_checks)) resolution_in

  -- R, the largest ratio, and GR in thousandths
  unfoldable pub generalized_answer : (List Check → List Check) → Result GeneralizedResolution Refusal
  generalized_answer start =
      answered (refusal (start resolution_checks)) (record {
        resolution = resolution_in;
        ratio = ratio_in;
        thousandths = thousandths_of resolution_in ratio_in;
      })
