-- Document 01, "Plan text and the listing": the listing of a plan text, byte for byte.
use Rattle.std.specs.Prelude.{cond, List, [], ◌∷◌, ◌++◌, ℕ, ◌*◌, ltb, ℤ, pos, nat_abs, length, Result}
use Rattle.exact.specs.Lists.{from, each, into}
use Rattle.exact.specs.Fractions.{reduced}
use Rattle.exact.specs.declared.fractions.Fraction.{Fraction}
use Rattle.rules.specs.declared.Refusal.{Refusal}
use Rattle.rules.specs.Plan.{Plan, columns, runs, level, entry, every_column, every_run}
use Rattle.rules.specs.Refusals.{Check, refusal, answered, unless, number_or, too_long, malformed, plan_checks, bad_room}
use Rattle.words.specs.Words.{word}
use Rattle.counts.specs.Counts.{strength}
use Rattle.resolution.specs.Resolution.{resolution_in, ratio_in, thousandths_of}
use Rattle.advice.specs.Advice.{advice}
use Rattle.text.specs.Bytes.{bytes, sized}
use Rattle.text.specs.Text.{malformed_line, plan_of}
use Rattle.lines.specs.Lines.{line_of, refusal_line}

-- ---- the lines

-- length, numerator, denominator
abbrev pub word_line : ℕ → Fraction → List ℕ
word_line j x = line_of (bytes "word") (j ∷ x.num ∷ x.den ∷ [])

-- R, ratio, thousandths
abbrev pub ratio_lines : ℕ → Fraction → ℕ → List ℕ
ratio_lines R x thousandths =
    line_of (bytes "resolution") (R ∷ [])
    ++ line_of (bytes "ratio") (x.num ∷ x.den ∷ [])
    ++ line_of (bytes "gr") (thousandths ∷ [])

abbrev pub no_resolution_line : List ℕ
no_resolution_line = line_of (bytes "resolution none") []

-- ---- of an accepted plan

module _ (p : Plan) where
  -- runs, columns
  abbrev pub plan_line : List ℕ
  plan_line = line_of (bytes "plan") (runs p ∷ columns p ∷ [])

  -- A_j, reduced (W_j is never negative)
  unfoldable pub word_fraction : ℕ → Fraction
  word_fraction j = reduced (nat_abs (word (level p) (entry p) (every_run p) (every_column p) j)) (runs p * runs p)

  -- one line for each length
  abbrev pub word_lines : List ℕ
  word_lines = each (from 1 (columns p)) (λ j. word_line j (word_fraction j))

  abbrev pub strength_line : List ℕ
  strength_line = line_of (bytes "strength") (strength (level p) (entry p) (every_run p) (every_column p) ∷ [])

  -- sizes, words, strength
  unfoldable pub count_lines : List ℕ
  count_lines = plan_line ++ word_lines ++ strength_line

  -- without a resolution there is no ratio or gr line
  abbrev pub resolution_lines : List ℕ
  resolution_lines =
      let R = resolution_in p (every_run p) in
      let x = ratio_in p (every_run p) in
      cond (ltb (columns p) R) no_resolution_line (ratio_lines R x (thousandths_of R x))

  -- the run advised for loss; with one run there is none
  abbrev pub advice_line : List ℕ
  advice_line = cond (ltb (runs p) 2) (line_of (bytes "lose none") []) (line_of (bytes "lose") (advice p (every_run p) ∷ []))

  unfoldable pub plan_listing : List ℕ
  plan_listing = count_lines ++ resolution_lines ++ advice_line

-- ---- of a text

-- 13, 14, and 1 to 5
abbrev pub listing_checks : List ℕ → List Check
listing_checks text = too_long (length text) ∷ malformed (malformed_line text) ∷ plan_checks (plan_of text)

-- the line of the refusal, or the lines of the plan
unfoldable pub listing : List ℕ → List ℕ
listing text = let r = refusal (listing_checks text) in unless r (refusal_line r) (plan_listing (plan_of text))

-- ---- into a lent room: 7 where it is too small, and then it stays as it was

abbrev pub room_refusal : List ℕ → List ℕ → Refusal
room_refusal text room = refusal (bad_room (length (listing text)) (length room) ∷ [])

-- the number of bytes put in, or the refusal
unfoldable pub listing_answer : List ℕ → List ℕ → Result ℕ Refusal
listing_answer text room = answered (room_refusal text room) (length (listing text))

unfoldable pub listing_room : List ℕ → List ℕ → List ℕ
listing_room text room = unless (room_refusal text room) room (into (listing text) room)

-- what a C program gets: the number of bytes, or the refusal number negated
unfoldable pub planner_listing : List ℕ → List ℕ → ℤ
planner_listing text room = number_or (sized (listing_answer text room))
