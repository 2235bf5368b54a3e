-- Document 01, "Plan text and the listing": plan text. Byte 10 ends a line, 44 is the comma, 48 to 57 are the digits.
use Rattle.std.specs.Prelude.{Bool, true, false, cond, not, ◌&&◌, List, [], ◌∷◌, ◌++◌, map, ℕ, ◌+◌, eqb, leb, length}
use Rattle.exact.specs.Lists.{all, each}
use Rattle.rules.specs.Plan.{Plan, plan}
use Rattle.text.specs.Decimal.{decimal, value}

-- ---- the pieces of a text

-- byte b before the pieces that follow it: the byte between two pieces, or one more byte of the first
abbrev pub cut : Bool → ℕ → List (List ℕ) → List (List ℕ)
cut true b pieces = [] ∷ pieces
cut false b [] = (b ∷ []) ∷ []
cut false b (piece ∷ pieces) = (b ∷ piece) ∷ pieces

-- the pieces between the bytes c: one more than there are bytes c
abbrev pub split : ℕ → List ℕ → List (List ℕ)
split c [] = [] ∷ []
split c (b ∷ bs) = cut (eqb b c) b (split c bs)

-- ---- a line

abbrev pub is_digit : ℕ → Bool
is_digit b = leb 48 b && leb b 57

-- a number has one or two digits, no leading zero but 0 itself
abbrev pub is_number : List ℕ → Bool
is_number [] = false
is_number (a ∷ []) = is_digit a
is_number (a ∷ b ∷ []) = is_digit a && not (eqb a 48) && is_digit b
is_number (a ∷ b ∷ c ∷ more) = false

-- a line without its byte 10 holds numbers, single commas between. An empty line is one piece that is no number
abbrev pub is_line : List ℕ → Bool
is_line line = all (split 44 line) is_number

-- how many numbers it holds, and which
abbrev pub count : List ℕ → ℕ
count line = length (split 44 line)

abbrev pub numbers : List ℕ → List ℕ
numbers line = map value (split 44 line)

-- ---- the lines

-- the lines of a text, from its pieces between the bytes 10: all but the last, which no byte 10 ends
abbrev pub ended : List (List ℕ) → List (List ℕ)
ended [] = []
ended (rest ∷ []) = []
ended (line ∷ next ∷ pieces) = line ∷ ended (next ∷ pieces)

-- of these pieces, from line number k on, the first line that does not hold m numbers or that is not ended; 0 where there is none
abbrev pub first_malformed : ℕ → ℕ → List (List ℕ) → ℕ
first_malformed m k [] = 0
first_malformed m k (rest ∷ []) = cond (eqb (length rest) 0) 0 k
first_malformed m k (line ∷ next ∷ pieces) =
    let later = first_malformed m (k + 1) (next ∷ pieces) in cond (is_line line && eqb (count line) m) later k

-- how many numbers the first line holds
abbrev pub width : List (List ℕ) → ℕ
width [] = 0
width (line ∷ pieces) = count line

-- the number, from 1, of the first malformed line; 0 where there is none. An empty text is malformed in line 1
unfoldable pub malformed_line : List ℕ → ℕ
malformed_line text = cond (eqb (length text) 0) 1 (first_malformed (width (split 10 text)) 1 (split 10 text))

-- the first line holds the levels, each later one a run
abbrev pub plan_of_lines : List (List ℕ) → Plan
plan_of_lines [] = plan [] []
plan_of_lines (line ∷ later) = plan (numbers line) (each later numbers)

-- the plan that a text holds, where no line is malformed
unfoldable pub plan_of : List ℕ → Plan
plan_of text = plan_of_lines (ended (split 10 text))

-- ---- writing

-- the pieces one after the other, byte c between them
abbrev pub join : ℕ → List (List ℕ) → List ℕ
join c [] = []
join c (piece ∷ []) = piece
join c (piece ∷ next ∷ pieces) = piece ++ c ∷ join c (next ∷ pieces)

-- the numbers of a line, single commas between
unfoldable pub write_line : List ℕ → List ℕ
write_line row = join 44 (map decimal row)

-- every line ends with byte 10
abbrev pub write_lines : List (List ℕ) → List ℕ
write_lines [] = []
write_lines (row ∷ rows) = write_line row ++ 10 ∷ write_lines rows
