-- How the listing is put together: its parts are put into a room one after the other.
use Rattle.std.specs.Prelude.{◌≡◌, List, ℕ, ◌-◌, ◌≤◌, ◌<◌, ℤ, pos, nat_abs, ◌≤ℤ◌, get_or, Result, Ok, Err}
use Rattle.exact.specs.Lists.{from, each}
use Rattle.exact.specs.Fractions.{reduced}
use Rattle.rules.specs.Plan.{Plan, every_run, most_columns}
use Rattle.rules.specs.declared.Refusal.{Refusal}
use Rattle.plan.specs.Good.{Good}
use Rattle.words.specs.Answers.{word_list}
use Rattle.resolution.specs.declared.GeneralizedResolution.{GeneralizedResolution}
use Rattle.listing_lines.specs.Listing.{word_line, ratio_lines, no_resolution_line}

-- no listing is longer
abbrev pub most_bytes : ℕ
most_bytes = 2048

-- ---- the parts, of the numbers that they show

-- words by length, m of them to be shown, over the number of pairs of runs
pub record Shown (words : List ℤ) (m pairs : ℕ) : Type 0 where
  pub few : m ≤ most_columns
  pub some : 0 < pairs
  pub not_negative : (j : ℕ) → 1 ≤ j → j ≤ m → pos 0 ≤ℤ get_or words (j - 1) (pos 0)

abbrev pub word_lines_of : List ℤ → ℕ → ℕ → List ℕ
word_lines_of words pairs m = each (from 1 m) (λ j. word_line j (reduced (nat_abs (get_or words (j - 1) (pos 0))) pairs))

abbrev pub lines_of_rating : Result GeneralizedResolution Refusal → List ℕ
lines_of_rating (Ok x) = ratio_lines x.resolution x.ratio x.thousandths
lines_of_rating (Err r) = no_resolution_line

-- every run of an accepted plan
pub record Every (p : Plan) (rs : List ℕ) : Type 0 where
  pub good : Good p
  pub all : rs ≡ every_run p

-- and their words
pub record Worded (p : Plan) (rs : List ℕ) (words : List ℤ) : Type 0 where
  pub every : Every p rs
  pub of-runs : words ≡ word_list p (every_run p)
