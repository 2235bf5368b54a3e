-- Document 01, "Plan text and the listing": a line of an answer.
use Rattle.std.specs.Prelude.{List, [], ◌∷◌, ◌++◌, ℕ}
use Rattle.exact.specs.Lists.{each}
use Rattle.rules.specs.declared.Refusal.{Refusal}
use Rattle.text.specs.Bytes.{bytes}
use Rattle.text.specs.Decimal.{decimal}

-- a field with the single space before it
abbrev pub field : ℕ → List ℕ
field x = 32 ∷ decimal x

-- what the line is about, its fields, and byte 10
abbrev pub line_of : List ℕ → List ℕ → List ℕ
line_of name xs = name ++ each xs field ++ 10 ∷ []

-- a refusal prints one line only
abbrev pub refusal_line : Refusal → List ℕ
refusal_line r = line_of (bytes "refused") (r.number ∷ r.first ∷ r.second ∷ [])
