-- What the comparison of words is given.
use Rattle.std.specs.Prelude.{◌≡◌, List, map, ℕ, ◌≤◌, ℤ, pos, length, get_or, take, ◌≤ℤ◌, Option, Result, Ok, Err, IfOk}
use Rattle.exact.specs.declared.fractions.Fraction.{Fraction}
use Rattle.exact.specs.declared.fractions.Verdict.{Verdict}
use Rattle.rules.specs.Plan.{Plan, columns, every_run, most_columns, most_runs}
use Rattle.rules.specs.declared.Refusal.{Refusal}
use Rattle.rules.specs.Refusals.{refusal, answered, plan_checks}
use Rattle.plan.specs.Good.{Sound}
use Rattle.words.specs.Answers.{word_list}
use Rattle.compare.specs.Compare.{over, refusal_of, verdict_of}
use Rattle.compare.specs.declared.RefusedPlan.{RefusedPlan}
use Rattle.compare.specs.declared.routines.Side.{Side}

-- a scaled word of n runs
pub record WordOf (n : ℕ) (word : ℤ) : Type 0 where
  pub some : 1 ≤ n
  pub few : n ≤ most_runs
  pub not_negative : pos 0 ≤ℤ word

-- the scaled words of n runs, by length
pub record WordsOf (n : ℕ) (words : List ℤ) : Type 0 where
  pub long : length words ≡ most_columns
  pub each : (j : ℕ) → WordOf n (get_or words j (pos 0))

-- ---- a side: a plan's words, its numbers of runs and of columns

-- its pattern
abbrev pub side_pattern : Side → List Fraction
side_pattern x = map (over x.runs) (take x.columns x.words)

-- one side against the other
abbrev pub compare_sides : Result Side Refusal → Result Side Refusal → Result (Option Verdict) RefusedPlan
compare_sides (Err r) y = refusal_of 1 r
compare_sides (Ok x) (Err s) = refusal_of 2 s
compare_sides (Ok x) (Ok y) = Ok (verdict_of x.columns (side_pattern x) y.columns (side_pattern y))

-- its numbers are words
pub record OfWords (x : Side) : Type 0 where
  pub words : WordsOf x.runs x.words
  pub few : x.columns ≤ most_columns

-- so they are where nothing is refused
abbrev pub Sided : Result Side Refusal → Type 0
Sided x = IfOk x OfWords

-- it stands for the runs rs of plan p
pub record SideOf (p : Plan) (rs : List ℕ) (x : Side) : Type 0 where
  pub sound : Sound p rs
  pub some : 1 ≤ length rs
  pub columns-are : x.columns ≡ columns p
  pub runs-are : x.runs ≡ length rs
  pub words_are : x.words ≡ word_list p rs

-- the runs rs of a plan
abbrev pub side : Plan → List ℕ → Side
side p rs = record { words = word_list p rs; runs = length rs; columns = columns p }

-- all runs of a plan
unfoldable pub whole_side : Plan → Result Side Refusal
whole_side p = answered (refusal (plan_checks p)) (side p (every_run p))
