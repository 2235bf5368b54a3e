-- Worked figures: the lines of a text, by computation.
use mathlib.Core.Path.{◌≡◌, refl}
use mathlib.Core.List.{List, [], ◌∷◌, ◌++◌, map}
use Prim.Native.Nat.{ℕ}
use Rattle.text.specs.Bytes.{bytes, lines}
use Rattle.console.specs.Lines.{lines_end, line_after}

-- two lines, and a third that no byte 10 ends
abbrev text : List ℕ
text = lines ("2,3" ∷ "" ∷ []) ++ bytes "0,1"

pub ends : map (λ k. lines_end text k) (0 ∷ 1 ∷ 2 ∷ 3 ∷ 4 ∷ []) ≡ 0 ∷ 4 ∷ 5 ∷ 8 ∷ 8 ∷ []
unfolding lines_end
ends = refl

pub found : map (λ k. line_after text k) (0 ∷ 1 ∷ 2 ∷ 3 ∷ []) ≡ lines ("2,3" ∷ []) ∷ (10 ∷ []) ∷ bytes "0,1" ∷ [] ∷ []
unfolding lines_end
found = refl
