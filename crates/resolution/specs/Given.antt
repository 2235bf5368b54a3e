-- What the routines over some runs of a plan are given, and the measures that every answer is made of.
use Rattle.std.specs.Prelude.{◌≡◌, Bool, cond, Result, List, [], ◌∷◌, ℕ, ◌+◌, ◌*◌, ◌-◌, ◌≤◌, ◌<◌, ◌^◌, eqb, leb, ℤ, pos, nat_abs, length, get_or}
use Rattle.std.specs.Int.Signed.{lt_z}
use Rattle.exact.specs.Lists.{first}
use Rattle.rules.specs.Plan.{Plan, columns, level, entry, every_column, most_columns}
use Rattle.rules.specs.Refusals.{refusal, answered, no_resolution}
use Rattle.rules.specs.declared.Refusal.{Refusal}
use Rattle.words.specs.Words.{word}
use Rattle.words.specs.Answers.{word_list}
use Rattle.set_words.specs.Given.{Tabled}
use Rattle.resolution.specs.Resolution.{resolution_in, ratio_in, thousandths_of}
use Rattle.resolution.specs.Charts.{quotient, zero_figure, column_ratio}
use Rattle.resolution.specs.declared.GeneralizedResolution.{GeneralizedResolution}
use Rattle.resolution.specs.declared.Chart.{Chart}
use Rattle.resolution.specs.declared.routines.Rating.{Rating}

-- some runs of a plan, and their words
pub record Measured (p : Plan) (rs : List ℕ) (words : List ℤ) : Type 0 where
  pub tabled : Tabled p rs
  pub of-runs : words ≡ word_list p rs

-- the word of length j, zero past the last; the words stand from length 1 on
abbrev pub word_in : List ℤ → ℕ → ℤ
word_in words j = cond (leb j most_columns) (get_or words (j - 1) (pos 0)) (pos 0)

-- whether the word of length j is above zero
abbrev pub is_above : List ℤ → ℕ → Bool
is_above words j = lt_z (pos 0) (get_or words (j - 1) (pos 0))

-- the first of the lengths 1 to m whose word is above zero, and m + 1 where there is none
abbrev pub first_above : List ℤ → ℕ → ℕ
first_above words m = first (is_above words) 1 m

-- ---- what every answer is made of

module _ (p : Plan) (rs : List ℕ) where
  -- m, n², R, W_R, W_(R+1), the largest ratio, and that of column i
  unfoldable pub measures : ℕ → Rating
  measures i = record {
    columns = columns p;
    pairs = length rs * length rs;
    resolution = resolution_in p rs;
    word = word (level p) (entry p) rs (every_column p) (resolution_in p rs);
    next = word (level p) (entry p) rs (every_column p) (resolution_in p rs + 1);
    largest = ratio_in p rs;
    held = column_ratio p rs i;
  }

-- numbers of which GR and the chart figures are made without loss
pub record Small (x : Rating) : Type 0 where
  pub length : x.resolution ≤ most_columns + 1
  pub at_most_one : x.largest.num ≤ x.largest.den
  pub short : x.largest.den < 2 ^ 32
  pub held-num : x.held.num ≤ 2 ^ 53
  pub held-den : x.held.den ≤ 2 ^ 53
  pub word : nat_abs x.word ≤ 2 ^ 53
  pub next : nat_abs x.next ≤ 2 ^ 53
  pub pairs : x.pairs ≤ 2 ^ 53

-- the answers, of a rating
abbrev pub generalized_from : Rating → GeneralizedResolution
generalized_from x = record { resolution = x.resolution; ratio = x.largest; thousandths = thousandths_of x.resolution x.largest }

abbrev pub chart_from : Rating → Chart
chart_from x = record {
  word = quotient x.word x.pairs;
  next = cond (eqb x.resolution x.columns) zero_figure (quotient x.next x.pairs);
  ratio = quotient (pos x.largest.num) x.largest.den;
}

-- the answer for the resolution, of m words
abbrev pub resolution_from : List ℤ → ℕ → Result ℕ Refusal
resolution_from words m = let R = first_above words m in answered (refusal (no_resolution m R ∷ [])) R
