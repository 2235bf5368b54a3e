-- The largest ratio of some runs, and that of a column, are the greatest of their values, and the only ones.
use Rattle.exact.proofs.Ground.{true, List, map, Memᴰ, mem-of_map, ◌≡◌, subst, ℕ}
use Rattle.exact.specs.Lists.{keep, holds}
use Rattle.exact.specs.declared.fractions.Fraction.{Fraction}
use Rattle.exact.proofs.Members.{keep-mem}
use Rattle.rules.specs.Plan.{Plan, columns, level, entry, every_column}
use Rattle.sets.specs.Sets.{sets_of}
use Rattle.sets.proofs.Parts.{part-all}
use Rattle.set_words.specs.Given.{Projection, Tabled}
use Rattle.set_words.specs.Properties.{IsReduced}
use Rattle.set_words.specs.SetWords.{relative_of}
use Rattle.set_words.proofs.Products.{part-projection}
use Rattle.set_words.proofs.Reduced.{value-reduced}
use Rattle.resolution.specs.Resolution.{greatest, largest_ratio, resolution_in, ratio_in}
use Rattle.resolution.specs.Charts.{column_ratio}
use Rattle.resolution.specs.Properties.{IsGreatest}
use Rattle.resolution.proofs.Greatest.{greatest-is, greatest-unique}
use Rattle.resolution.proofs.Resolved.{resolution-is}
use Rattle.ratios.proofs.Walks.{set-projection}

module _ (p : Plan) (rs : List ℕ) (G : Tabled p rs) where
  -- the relative values of some of the sets of R columns
  abbrev pub ratios : List (List ℕ) → List Fraction
  ratios Js = map (relative_of (level p) (entry p) rs) Js

  abbrev pub sets : List (List ℕ)
  sets = sets_of (columns p) (resolution_in p rs)

  module _ (Js : List (List ℕ)) (some : (I : List ℕ) → Memᴰ I Js → Memᴰ I sets) where
    each-reduced : (x : Fraction) → Memᴰ x (ratios Js) → IsReduced x
    each-reduced x m =
        let (I, k, e) = mem-of_map (relative_of (level p) (entry p) rs) Js m in
        let K : Projection p (every_column p) = part-projection p G.sound.level-low G.sound.small (every_column p) (part-all (every_column p)) in
        let low = (resolution-is (level p) (entry p) rs (every_column p)).low in
        let (P, l) = set-projection p rs (every_column p) G K (resolution_in p rs) low I (some I k) in
        subst IsReduced e (value-reduced p rs I G P l true)

    greatest-ratio : IsGreatest (ratios Js) (greatest (ratios Js))
    greatest-ratio = greatest-is (ratios Js) (λ x m. (each-reduced x m).above_zero)

    only-ratio : (g : Fraction) → IsGreatest (ratios Js) g → g ≡ greatest (ratios Js)
    only-ratio g H = greatest-unique (ratios Js) each-reduced g (greatest (ratios Js)) H greatest-ratio

  pub ratio-is : IsGreatest (ratios sets) (ratio_in p rs)
  unfolding largest_ratio
  ratio-is = greatest-ratio sets (λ I m. m)

  pub ratio-only : (g : Fraction) → IsGreatest (ratios sets) g → g ≡ ratio_in p rs
  unfolding largest_ratio
  ratio-only = only-ratio sets (λ I m. m)

  -- of the sets that hold column i
  pub column-is : (i : ℕ) → IsGreatest (ratios (keep (holds i) sets)) (column_ratio p rs i)
  unfolding column_ratio
  column-is i = greatest-ratio (keep (holds i) sets) (λ I m. keep-mem (holds i) sets I m)

  pub column-only : (i : ℕ) (g : Fraction) → IsGreatest (ratios (keep (holds i) sets)) g → g ≡ column_ratio p rs i
  unfolding column_ratio
  column-only i = only-ratio (keep (holds i) sets) (λ I m. keep-mem (holds i) sets I m)
