-- Document 01, "Strength, resolution, projections": chart figures, each one division of two whole numbers that an f64 holds exactly.
use Rattle.std.specs.Prelude.{false, cond, Option, Some, None, Result, Ok, Err, List, ◌∷◌, map, ℕ, ◌+◌, ◌*◌, eqb, ℤ, pos, length, Float}
use Rattle.std.specs.Float.{fin, binary64}
use Rattle.std.specs.Float.Ieee.{of_int, div}
use Rattle.exact.specs.Lists.{keep, holds}
use Rattle.exact.specs.declared.fractions.Fraction.{Fraction}
use Rattle.rules.specs.Plan.{Plan, columns, level, entry, every_column}
use Rattle.rules.specs.declared.Refusal.{Refusal}
use Rattle.rules.specs.Refusals.{Check, refusal, answered, bad_place}
use Rattle.sets.specs.Sets.{choose}
use Rattle.words.specs.Words.{word}
use Rattle.set_words.specs.SetWords.{relative_of}
use Rattle.resolution.specs.Resolution.{greatest, resolution_in, ratio_in, resolution_checks}
use Rattle.resolution.specs.declared.Chart.{Chart}

-- the f64 nearest to num / den
unfoldable pub quotient : ℤ → ℕ → Float
quotient num den = div binary64 (of_int binary64 num) (of_int binary64 (pos den))

abbrev pub zero_figure : Float
zero_figure = fin false 0 (pos 0)

-- what an answer for a column's figure says: its f64, and none for the word clear, which a refusal says too
abbrev pub figure_says : Result (Option Float) Refusal → Option Float
figure_says (Ok figure) = figure
figure_says (Err r) = None

-- the ratio as a figure, and none where it is zero: a figure that is clear
abbrev pub figure_of : Fraction → Option Float
figure_of x = cond (eqb x.num 0) None (Some (quotient (pos x.num) x.den))

module _ (p : Plan) (rs : List ℕ) where
  -- the word at length j as a figure
  abbrev pub word_figure : ℕ → Float
  word_figure j = quotient (word (level p) (entry p) rs (every_column p) j) (length rs * length rs)

  -- A_R, A_(R+1) and the largest ratio; A_(R+1) is zero where R = m
  unfoldable pub chart_of : Chart
  chart_of =
      let R = resolution_in p rs in
      let x = ratio_in p rs in
      record {
        word = word_figure R;
        next = cond (eqb R (columns p)) zero_figure (word_figure (R + 1));
        ratio = quotient (pos x.num) x.den;
      }

  unfoldable pub chart_answer : (List Check → List Check) → Result Chart Refusal
  chart_answer start = answered (refusal (start (resolution_checks p rs))) chart_of

  -- the largest ratio over sets of R columns holding column i
  unfoldable pub column_ratio : ℕ → Fraction
  column_ratio i = greatest (map (relative_of (level p) (entry p) rs) (keep (holds i) (choose (resolution_in p rs) (every_column p))))

  -- an answer for column i asks that it is one
  abbrev pub column_checks : ℕ → List Check
  column_checks i = bad_place (columns p) i ∷ resolution_checks p rs

  -- column i's figure
  unfoldable pub figure_answer : (List Check → List Check) → ℕ → Result (Option Float) Refusal
  figure_answer start i = answered (refusal (start (column_checks i))) (figure_of (column_ratio i))
