-- How long the lines of a table can be.
use Rattle.std.specs.Prelude.{ℕ}

-- no table has more lines: there are so many sets of 4 of 24 columns
abbrev pub most_lines : ℕ
most_lines = 10_626

-- a head of 51 bytes, and 69 for each line
abbrev pub most_bytes : ℕ
most_bytes = 733_245
