-- Request #107: a projection table as lines, byte for byte.
use Rattle.std.specs.Prelude.{Bool, cond, List, [], ◌∷◌, ◌++◌, ℕ, length}
use Rattle.exact.specs.Lists.{each}
use Rattle.rules.specs.declared.Refusal.{Refusal}
use Rattle.rules.specs.Plan.{Plan, columns}
use Rattle.rules.specs.Refusals.{Check, refusal, unless, bad_size, past_resolution}
use Rattle.resolution.specs.Resolution.{resolution_in}
use Rattle.projection_tables.specs.Tables.{Line, table_in}
use Rattle.text.specs.Bytes.{bytes}
use Rattle.lines.specs.Lines.{line_of, refusal_line}

-- which table it is, f, and the number of lines that follow
abbrev pub head_line : Bool → ℕ → ℕ → List ℕ
head_line relative f n = line_of (cond relative (bytes "relative") (bytes "table")) (f ∷ n ∷ [])

-- numerator and denominator of a value, and how many sets have it
abbrev pub value_line : Line → List ℕ
value_line l = line_of (bytes "value") (l.value.num ∷ l.value.den ∷ l.sets ∷ [])

module _ (p : Plan) (rs : List ℕ) (relative : Bool) (f : ℕ) where
  -- the values rise
  unfoldable pub table_lines : List ℕ
  table_lines = let ls = table_in relative p rs f in head_line relative f (length ls) ++ each ls value_line

  -- 6, then 16 of a relative table where f is above R
  abbrev pub print_checks : List Check
  print_checks = bad_size (columns p) f ∷ past_resolution relative (resolution_in p rs) f ∷ []

  -- a refusal prints its one line only
  abbrev pub lines_beside : Refusal → List ℕ
  lines_beside r = unless r (refusal_line r) table_lines

  unfoldable pub table_listing : (List Check → List Check) → List ℕ
  table_listing start = lines_beside (refusal (start print_checks))
