-- What is compared: a plan, some of its runs and some of its columns.
use Rattle.std.specs.Prelude.{◌≡◌, List, ℕ, ◌<◌, length}
use Rattle.exact.specs.declared.fractions.Fraction.{Fraction}
use Rattle.exact.specs.declared.fractions.Verdict.{Verdict}
use Rattle.rules.specs.Plan.{Plan, level, entry}
use Rattle.compare.specs.Compare.{pattern, compare_patterns}

pub record Judged : Type 0 where
  pub plan : Plan
  pub runs : List ℕ
  pub columns : List ℕ

-- m columns, and one run or more
pub record OfColumns (m : ℕ) (x : Judged) : Type 0 where
  pub wide : length x.columns ≡ m
  pub some : 0 < length x.runs

abbrev pub pattern_in : Judged → List Fraction
pattern_in x = pattern (level x.plan) (entry x.plan) x.runs x.columns

abbrev pub compare_judged : Judged → Judged → Verdict
compare_judged x y = compare_patterns (pattern_in x) (pattern_in y)
