-- The number that an argument names: a run, a column.
use Rattle.std.specs.Prelude.{Bool, cond, not, ◌&&◌, List, ℕ, length, Option, Some, None, unwrap_or}
use Rattle.exact.specs.Lists.{all, outside}
use Rattle.text.specs.Decimal.{value}
use Rattle.text.specs.Text.{is_digit}

-- one to three digits
abbrev pub is_number : List ℕ → Bool
is_number bytes = not (outside 1 3 (length bytes)) && all bytes is_digit

-- any other bytes name none
abbrev pub number_named : List ℕ → Option ℕ
number_named bytes = cond (is_number bytes) (Some (value bytes)) None

-- no plan has so many runs or columns
abbrev pub no_number : ℕ
no_number = 1000

-- what an argument stands for
abbrev pub number_meant : List ℕ → ℕ
number_meant bytes = unwrap_or (number_named bytes) no_number
