-- Worked figures: what a C program gets of 16 bytes written, of none, and of refusals 7 and 14.
use Rattle.exact.proofs.Ground.{[], ◌∷◌, ◌≡◌, refl, pos, negsuc}
use Rattle.std.specs.Prelude.{Ok, Err}
use Rattle.rules.specs.Refusals.{plain, placed, number_or}

pub number-or-refusals :
    number_or (Ok (pos 16)) ∷ number_or (Ok (pos 0)) ∷ number_or (Err (plain 7)) ∷ number_or (Err (placed 14 3 0)) ∷ []
    ≡ pos 16 ∷ pos 0 ∷ negsuc 6 ∷ negsuc 13 ∷ []
number-or-refusals = refl
