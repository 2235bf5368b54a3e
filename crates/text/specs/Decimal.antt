-- Document 01, "Plan text and the listing": a number as the bytes of its decimal digits, 48 to 57.
use Rattle.std.specs.Prelude.{true, false, List, [], ◌∷◌, ◌++◌, ℕ, zero, suc, ◌+◌, ◌-◌, ◌*◌, ◌/◌, ◌%◌, ltb}

-- the digits of n, k being a bound on their number
abbrev pub digits : ℕ → ℕ → List ℕ
digits zero n = []
digits (suc k) n = elim (ltb n 10) [ true ↦ (48 + n) ∷ [] | false ↦ digits k (n / 10) ++ (48 + n % 10) ∷ [] ]

-- the digits of n, without leading zeros
unfoldable pub decimal : ℕ → List ℕ
decimal n = digits (suc n) n

-- the number that digits stand for, where those before them stand for n
abbrev pub value_after : ℕ → List ℕ → ℕ
value_after n [] = n
value_after n (b ∷ bs) = value_after (n * 10 + (b - 48)) bs

abbrev pub value : List ℕ → ℕ
value bytes = value_after 0 bytes
