-- How the exports for the tests tell generalized resolution by numbers.
use Rattle.std.specs.Prelude.{List, [], ◌∷◌, ℕ, replicate, Result, Ok, Err}
use Rattle.rules.specs.declared.Refusal.{Refusal}
use Rattle.resolution.specs.declared.GeneralizedResolution.{GeneralizedResolution}

-- R, the largest ratio, GR in thousandths; zeros in a refusal
abbrev pub generalized_numbers : Result GeneralizedResolution Refusal → List ℕ
generalized_numbers (Ok found) = found.resolution ∷ found.ratio.num ∷ found.ratio.den ∷ found.thousandths ∷ []
generalized_numbers (Err r) = replicate 4 0
