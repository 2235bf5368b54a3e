-- How long a line can be.
use Rattle.std.specs.Prelude.{List, ℕ, ◌+◌, ◌*◌, length}

-- a number of 64 bits has 20 digits or fewer, and a space before them
abbrev pub most_of_line : List ℕ → List ℕ → ℕ
most_of_line name xs = length name + 21 * length xs + 1
