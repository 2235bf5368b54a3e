-- How the exports for the tests tell an answer by numbers.
use Rattle.std.specs.Prelude.{List, [], ◌∷◌, ℕ, ℤ, get_or, replicate, Float, Option, Some, None, Result, Ok, Err}
use Rattle.exact.specs.declared.fractions.Verdict.{Verdict}
use Rattle.exact.specs.declared.fractions.Verdict.TheVariants.{Better, Worse, Equal}
use Rattle.rules.specs.declared.Refusal.{Refusal}
use Rattle.words.specs.declared.Sums.{Sums}
use Rattle.words.specs.Answers.{zeros}
use Rattle.resolution.specs.declared.Chart.{Chart}
use Rattle.resolution.specs.Charts.{zero_figure}
use Rattle.compare.specs.declared.RefusedPlan.{RefusedPlan}

-- a refusal's places
abbrev pub places_of : Refusal → List ℕ
places_of r = r.first ∷ r.second ∷ []

-- the row sums at place f of an answer, which has 256 places; zeros in a refusal
abbrev pub row_at : Result (List Sums) Refusal → ℕ → List ℤ
row_at (Ok rows) f = (get_or rows f (record { sums = [] })).sums
row_at (Err r) f = zeros

-- A_R, A_(R+1), the largest ratio; zeros in a refusal
abbrev pub figures_of : Result Chart Refusal → List Float
figures_of (Ok chart) = chart.word ∷ chart.next ∷ chart.ratio ∷ []
figures_of (Err r) = replicate 3 zero_figure

-- a column's figure: 1 and the ratio, or 0 and 0 where it is clear
abbrev pub case_of : Option Float → ℕ
case_of (Some x) = 1
case_of None = 0

abbrev pub ratio_in : Option Float → Float
ratio_in (Some x) = x
ratio_in None = zero_figure

-- a verdict's number
abbrev pub verdict_number : Verdict → ℕ
verdict_number Equal = 0
verdict_number Better = 1
verdict_number Worse = 2

-- a comparison: the verdict's number, or 3 for not comparable, or 4 with the plan that is refused, the refusal's number and its places
abbrev pub numbers_of : Result (Option Verdict) RefusedPlan → List ℕ
numbers_of (Ok (Some v)) = verdict_number v ∷ 0 ∷ 0 ∷ 0 ∷ 0 ∷ []
numbers_of (Ok None) = 3 ∷ 0 ∷ 0 ∷ 0 ∷ 0 ∷ []
numbers_of (Err x) = 4 ∷ x.plan ∷ x.refusal.number ∷ x.refusal.first ∷ x.refusal.second ∷ []
