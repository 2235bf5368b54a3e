-- The greatest of some fractions: one fraction more is one comparison.
use Rattle.exact.proofs.Ground.{true, false, Bool, cond, List, [], ◌∷◌, ◌++◌, Memᴰ, mem-head, mem-append_left, mem-append_right, ◌≡◌}
use Rattle.exact.proofs.Ground.{refl, subst}
use Rattle.exact.specs.Fractions.{zero_fraction, smaller_fraction, is_better}
use Rattle.exact.specs.declared.fractions.Fraction.{Fraction}
use Rattle.exact.proofs.Lists.{grown}
use Rattle.ratios.specs.Ratios.{greater, greatest_from, greatest}

from-snoc : (x : Fraction) (ys : List Fraction) (y : Fraction) → greatest_from x (ys ++ y ∷ []) ≡ greater (greatest_from x ys) y
from-snoc x [] y = refl
from-snoc x (z ∷ ys) y = from-snoc (greater x z) ys y

pub greatest-none : zero_fraction ≡ greatest []
unfolding greatest
greatest-none = refl

-- a loop's turn
pub greatest-snoc : (xs : List Fraction) (x : Fraction) → greatest (xs ++ x ∷ []) ≡ greater (greatest xs) x
unfolding greatest
greatest-snoc xs x = from-snoc zero_fraction xs x

-- what holds of both fractions holds of the greater
pub greater-of : (P : Fraction → Type 0) (x y : Fraction) → P x → P y → P (greater x y)
greater-of P x y p q = go (is_better (smaller_fraction x y))
  where
    go : (b : Bool) → P (cond b y x)
    go true = q
    go false = p

-- what holds of 0/1 and of each holds of the greatest
pub greatest-of : (P : Fraction → Type 0) (xs : List Fraction) → P zero_fraction → ((x : Fraction) → Memᴰ x xs → P x) → P (greatest xs)
greatest-of P xs z =
    grown (λ xs. ((x : Fraction) → Memᴰ x xs → P x) → P (greatest xs)) (λ h. subst P greatest-none z)
    (λ xs x ih h.
    rw (greatest-snoc xs x)
    (greater-of P (greatest xs) x (ih (λ y m. h y (mem-append_left (x ∷ []) m))) (h x (mem-append_right xs (mem-head refl)))))
    xs
