-- The lines of a text, each with the byte 10 that ends it.
use Rattle.std.specs.Prelude.{cond, List, [], ◌∷◌, ℕ, zero, suc, eqb, take, drop}

-- how many bytes the first k lines take; all bytes where there are fewer lines
unfoldable pub lines_end : List ℕ → ℕ → ℕ
lines_end [] k = 0
lines_end (b ∷ text) zero = 0
lines_end (b ∷ text) (suc k) = suc (lines_end text (cond (eqb b 10) k (suc k)))

-- the first line
abbrev pub first_line : List ℕ → List ℕ
first_line text = take (lines_end text 1) text

-- the line that stands behind k lines
abbrev pub line_after : List ℕ → ℕ → List ℕ
line_after text k = first_line (drop (lines_end text k) text)
