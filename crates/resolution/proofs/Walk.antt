-- The ratios of the sets of some size have short denominators, and an f64 holds them.
use Rattle.exact.proofs.Ground.{true, List, map, Memᴰ, mem-of_map, subst, ℕ, ◌≤◌, ◌^◌, arith}
use Rattle.exact.specs.Fractions.{ShortDenominator}
use Rattle.exact.specs.declared.fractions.Fraction.{Fraction}
use Rattle.rules.specs.Plan.{Plan, level, entry}
use Rattle.sets.specs.Sets.{choose}
use Rattle.set_words.specs.Given.{Projection, Tabled}
use Rattle.set_words.specs.SetWords.{relative_of}
use Rattle.set_words.proofs.SetWords.{word_small}
use Rattle.set_words.proofs.Values.{value-num, value-short}
use Rattle.ratios.specs.Ratios.{greatest}
use Rattle.ratios.proofs.Greatest.{greatest-of}
use Rattle.ratios.proofs.Walks.{set-projection}

module _ (p : Plan) (rs cols : List ℕ) (G : Tabled p rs) (K : Projection p cols) (f : ℕ) (some : 1 ≤ f) where
  -- a ratio that can be compared, and that an f64 holds
  abbrev Exact : Fraction → Type 0
  Exact x = ShortDenominator x × (x.num ≤ 2 ^ 53)

  ratio-exact : (I : List ℕ) → Memᴰ I (choose f cols) → Exact (relative_of (level p) (entry p) rs I)
  ratio-exact I m =
      let (P, l) = set-projection p rs cols G K f some I m in
      (value-short p rs I G P l true, omega (arith, value-num p rs I true, word_small p rs I G.sound P 0))

  pub ratios-small : (Js : List (List ℕ)) → ((I : List ℕ) → Memᴰ I Js → Memᴰ I (choose f cols)) →
      Exact (greatest (map (relative_of (level p) (entry p) rs) Js))
  ratios-small Js h =
      greatest-of Exact (map (relative_of (level p) (entry p) rs) Js) (record { above_zero = omega arith; short = omega arith }, omega arith)
      (λ x m. let (I, k, e) = mem-of_map (relative_of (level p) (entry p) rs) Js m in subst Exact e (ratio-exact I (h I k)))
