-- Worked figures: what is printed, from the definitions, by computation.
use Rattle.exact.proofs.Ground.{Bool, true, false, List, [], ◌∷◌, map, ◌≡◌, refl, ℕ}
use Rattle.exact.specs.Fractions.{gcd, reduced, smaller_fraction}
use Rattle.rules.specs.Plan.{Plan, plan, every_run}
use Rattle.words.specs.Words.{score, word_of, word}
use Rattle.set_words.specs.SetWords.{value_of, relative_of}
use Rattle.set_words.proofs.Printed.{listed, L18}
use Rattle.resolution.specs.Resolution.{resolution}
use Rattle.projection_tables.specs.Tables.{table_of, absolute_table, relative_table}
use Rattle.text.specs.Bytes.{lines}
use Rattle.text.specs.Decimal.{decimal}
use Rattle.table_lines.specs.TableLines.{table_lines, table_listing}

-- the table of a plan for size f, relative or not, and what is printed for it
record Figure : Type 0 where
  of : Plan
  relative : Bool
  size : ℕ
  printed : List ℕ

abbrev figure : Plan → Bool → ℕ → List ℕ → Figure
figure p relative f bytes = record { of = p; relative = relative; size = f; printed = bytes }

-- every combination of two levels and three: no words
abbrev whole : Plan
whole = plan (2 ∷ 3 ∷ []) (0 ∷ 0 ∷ 0 ∷ 1 ∷ 0 ∷ 2 ∷ 1 ∷ 0 ∷ 1 ∷ 1 ∷ 1 ∷ 2 ∷ [])

-- L18 at its resolution and past it; a plan of resolution 1; a plan without words
abbrev figures : List Figure
figures =
    figure L18 false 3 (lines ("table 3 5" ∷ "value 0 1 12" ∷ "value 1 2 28" ∷ "value 2 3 9" ∷ "value 1 1 6" ∷ "value 2 1 1" ∷ []))
    ∷ figure L18 true 3 (lines ("relative 3 5" ∷ "value 0 1 12" ∷ "value 1 4 28" ∷ "value 1 2 6" ∷ "value 2 3 9" ∷ "value 1 1 1" ∷ []))
    ∷ figure L18 true 4 (lines ("refused 16 0 0" ∷ []))
    ∷ figure listed false 2 (lines ("table 2 1" ∷ "value 8 9 1" ∷ []))
    ∷ figure listed true 2 (lines ("refused 16 0 0" ∷ []))
    ∷ figure listed true 3 (lines ("refused 6 0 0" ∷ []))
    ∷ figure whole true 1 (lines ("relative 1 1" ∷ "value 0 1 2" ∷ []))
    ∷ figure whole true 2 (lines ("relative 2 1" ∷ "value 0 1 1" ∷ []))
    ∷ []

pub printed :
    map (λ f. table_listing f.of (every_run f.of) f.relative f.size (λ checks. checks)) figures ≡ map (λ f. f.printed) figures
unfolding gcd reduced smaller_fraction score word_of word value_of relative_of resolution table_of absolute_table relative_table decimal table_lines
    table_listing
printed = refl
