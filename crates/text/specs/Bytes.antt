-- Quoted texts as bytes, and bytes put into a lent room.
use Rattle.std.specs.Prelude.{◌≡◌, List, [], ◌∷◌, ◌++◌, ℕ, zero, suc, ◌+◌, ◌≤◌, length, take, drop, ℤ, pos, Result, Ok, Err}
use Prim.Native.Char.{code}
use Prim.Native.String.{String, len, char_at}
use Rattle.rules.specs.declared.Refusal.{Refusal}

-- n characters of the text, from place i on
abbrev pub bytes_from : ℕ → ℕ → String → List ℕ
bytes_from i zero text = []
bytes_from i (suc n) text = code (char_at text i) ∷ bytes_from (suc i) n text

abbrev pub bytes : String → List ℕ
bytes text = bytes_from 0 (len text) text

-- the lines, each ended by byte 10
abbrev pub lines : List String → List ℕ
lines [] = []
lines (line ∷ later) = bytes line ++ 10 ∷ lines later

-- a room after xs were put into it from place k on: what stands before and after them is as it was
abbrev pub put_at : ℕ → List ℕ → List ℕ → List ℕ
put_at k xs room = take k room ++ xs ++ drop (k + length xs) room

-- the bytes xs, `most` of them at most, were put into a room from place `at` on: the place behind them, and the room then
pub record Put (xs : List ℕ) (most at : ℕ) (room : List ℕ) (next : ℕ) (after : List ℕ) : Type 0 where
  pub fits : at + length xs ≤ length room
  pub short : length xs ≤ most
  pub behind : next ≡ at + length xs
  pub stored : after ≡ put_at at xs room

-- a number of bytes or lines as one that could be below zero, which a C program gets; a refusal stays
abbrev pub sized : Result ℕ Refusal → Result ℤ Refusal
sized (Ok size) = Ok (pos size)
sized (Err r) = Err r
