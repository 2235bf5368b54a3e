-- Worked figures: the number that an argument names, by computation.
use Rattle.exact.proofs.Ground.{true, [], ◌∷◌, map, ◌≡◌, refl, ltb}
use Rattle.std.specs.Prelude.{Some, None}
use Rattle.rules.specs.Plan.{most_columns, most_runs}
use Rattle.text.specs.Bytes.{bytes}
use Rattle.console.specs.Arguments.{no_number, number_named, number_meant}

-- numbers of one to three digits; then nothing, four digits, a letter, a sign, a space, and the bytes next below and above the digits
pub numbers-named :
    map (λ argument. number_named (bytes argument)) ("0" ∷ "5" ∷ "05" ∷ "10" ∷ "255" ∷ "999" ∷ "" ∷ "0005" ∷ "x" ∷ "-1" ∷ " 5" ∷ "/" ∷ ":" ∷ [])
    ≡ Some 0 ∷ Some 5 ∷ Some 5 ∷ Some 10 ∷ Some 255 ∷ Some 999 ∷ None ∷ None ∷ None ∷ None ∷ None ∷ None ∷ None ∷ []
numbers-named = refl

pub numbers-meant :
    map (λ argument. number_meant (bytes argument)) ("0" ∷ "5" ∷ "05" ∷ "10" ∷ "255" ∷ "999" ∷ "" ∷ "0005" ∷ "x" ∷ "-1" ∷ " 5" ∷ "/" ∷ ":" ∷ [])
    ≡ 0 ∷ 5 ∷ 5 ∷ 10 ∷ 255 ∷ 999 ∷ no_number ∷ no_number ∷ no_number ∷ no_number ∷ no_number ∷ no_number ∷ no_number ∷ []
numbers-meant = refl

pub no-plan-has : map (λ most. ltb most no_number) (most_columns ∷ most_runs ∷ []) ≡ true ∷ true ∷ []
no-plan-has = refl
