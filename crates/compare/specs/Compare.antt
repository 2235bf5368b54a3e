-- Document 01, "Words": the comparison of two plans (generalized minimum aberration).
use Rattle.std.specs.Prelude.{cond, List, [], ◌∷◌, map, ℕ, ◌*◌, eqb, ℤ, nat_abs, length, Option, None, Some, Result, Ok, Err}
use Rattle.exact.specs.Lists.{from}
use Rattle.exact.specs.Fractions.{then, smaller_fraction}
use Rattle.exact.specs.declared.fractions.Fraction.{Fraction}
use Rattle.exact.specs.declared.fractions.Verdict.{Verdict}
use Rattle.exact.specs.declared.fractions.Verdict.TheVariants.{Equal}
use Rattle.rules.specs.Plan.{Plan, columns, level, entry, every_column, every_run}
use Rattle.rules.specs.Refusals.{Check, refusal, refuses, accepted, of_plan}
use Rattle.rules.specs.declared.Refusal.{Refusal}
use Rattle.words.specs.Words.{word}
use Rattle.compare.specs.declared.RefusedPlan.{RefusedPlan}

-- the word A_j = W_j / n² of n runs (W_j is never negative)
abbrev pub over : ℕ → ℤ → Fraction
over n w = record { num = nat_abs w; den = n * n }

module _ {R C : Type 0} (level : C → ℕ) (entry : R → C → ℕ) (rs : List R) (cols : List C) where
  unfoldable pub A : ℕ → Fraction
  A j = over (length rs) (word level entry rs cols j)

  -- A_1 to A_m
  unfoldable pub pattern : List Fraction
  pattern = map A (from 1 (length cols))

-- the smaller A_j at the first length where they differ is better; equal patterns are equal
unfoldable pub compare_patterns : List Fraction → List Fraction → Verdict
compare_patterns [] ys = Equal
compare_patterns (x ∷ xs) [] = Equal
compare_patterns (x ∷ xs) (y ∷ ys) = then (smaller_fraction x y) (compare_patterns xs ys)

-- what an answer says, in document 01's numbers: the refusal's number and places (number 0 is no refusal), which plan it is of (1 or 2, and 0
-- where nothing is refused), and the verdict. With no refusal and no verdict it is "not comparable"
pub record Says : Type 0 where
  pub refused : Refusal
  pub plan : ℕ
  pub verdict : Option Verdict

abbrev pub comparison_says : Result (Option Verdict) RefusedPlan → Says
comparison_says (Ok v) = record { refused = accepted; plan = 0; verdict = v }
comparison_says (Err r) = record { refused = r.refusal; plan = r.plan; verdict = None }

-- the refusal r of the plan k
abbrev pub refusal_of : {A : Type 0} → ℕ → Refusal → Result A RefusedPlan
refusal_of k r = Err (record { plan = k; refusal = r })

-- the pattern of the runs rs of plan p
abbrev pub pattern_of : Plan → List ℕ → List Fraction
pattern_of p rs = pattern (level p) (entry p) rs (every_column p)

-- the pattern xs of a plan of m columns against ys of one of k columns
abbrev pub verdict_of : ℕ → List Fraction → ℕ → List Fraction → Option Verdict
verdict_of m xs k ys = cond (eqb m k) (Some (compare_patterns xs ys)) None

-- the first refusal, then the second, and else the verdict; a refusal says which plan it is of, 1 or 2
abbrev pub comparison_beside : Refusal → Refusal → Option Verdict → Result (Option Verdict) RefusedPlan
comparison_beside r s verdict = cond (refuses r) (refusal_of 1 r) (cond (refuses s) (refusal_of 2 s) (Ok verdict))

-- the runs rs of plan p against the runs ss of plan q; the first plan is checked entirely, then the second
unfoldable pub compare_answer : (List Check → List Check) → Plan → List ℕ → (List Check → List Check) → Plan → List ℕ →
    Result (Option Verdict) RefusedPlan
compare_answer start p rs start_other q ss =
    comparison_beside (refusal (start [])) (refusal (start_other [])) (verdict_of (columns p) (pattern_of p rs) (columns q) (pattern_of q ss))

-- two plans, given as levels and table
abbrev pub compare_plans : Plan → Plan → Result (Option Verdict) RefusedPlan
compare_plans p q = compare_answer (of_plan p) p (every_run p) (of_plan q) q (every_run q)
