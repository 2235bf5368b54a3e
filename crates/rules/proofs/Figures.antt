-- Document 01, "Refusal numbers", worked: of two checks that fail, each next to the other in the order, the one that stands first is given.
use Rattle.exact.proofs.Ground.{true, List, [], ◌∷◌, map, ◌≡◌, refl, ℕ}
use Rattle.rules.specs.Refusals.{check, refusal}

record Both : Type 0 where
  sooner : ℕ
  later : ℕ

abbrev both : ℕ → ℕ → Both
both a b = record { sooner = a; later = b }

-- the later one is listed first
given : Both → ℕ
given x = (refusal (check x.later true ∷ check x.sooner true ∷ [])).number

figures : List Both
figures =
    both 13 14 ∷ both 14 1 ∷ both 1 2 ∷ both 2 3 ∷ both 3 4 ∷ both 4 5 ∷ both 5 6 ∷ both 6 16 ∷ both 16 8 ∷ both 8 9 ∷ both 9 10 ∷ both 10 11 ∷ both 11 7 ∷ []

order-figures : map given figures ≡ map (λ x. x.sooner) figures
unfolding given figures
order-figures = refl
