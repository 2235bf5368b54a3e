-- Whether a number is among others, in the words of the library and of the definition.
use Rattle.exact.proofs.Ground.{List, [], ◌∷◌, ◌≡◌, ap₂, refl, ℕ, ◌||◌}
use Rattle.std.specs.Prelude.{nat_eq}
use Rattle.std.specs.List.{list_any}
use Rattle.exact.specs.Lists.{holds}
use Rattle.exact.proofs.Tests.{eqb-sym}

pub any-holds : (x : ℕ) (xs : List ℕ) → list_any (λ y. nat_eq y x) xs ≡ holds x xs
any-holds x [] = refl
any-holds x (y ∷ ys) = ap₂ (λ b c. b || c) (eqb-sym y x) (any-holds x ys)
