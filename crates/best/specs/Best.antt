-- The best of a list of candidates, by any comparison and a rule for ties. What counts is the place in the list, from 0.
use Rattle.std.specs.Prelude.{◌≡◌, Bool, not, ℕ, suc, ◌<◌, length, get_or, take, drop}
use mathlib.Core.List.{List, [], ◌∷◌, Memᴰ}
use Rattle.exact.specs.Lists.{all, keep}
use Rattle.exact.specs.Fractions.{is_better}
use Rattle.exact.specs.declared.fractions.Verdict.{Verdict}
use Rattle.exact.specs.declared.fractions.Verdict.TheVariants.{Better}

-- of equal candidates, the one at the lowest place or the one at the highest
pub data Tie : Type 0 where
  lowest : Tie
  highest : Tie

module _ {A : Type 0} (c : A → A → Verdict) where
  -- whether no candidate is better than x
  abbrev pub unbeaten : List A → A → Bool
  unbeaten xs x = all xs (λ y. not (is_better (c y x)))

  -- the candidates that none betters, in their order
  abbrev pub unbeatens : List A → List A
  unbeatens xs = keep (unbeaten xs) xs

module _ {A : Type 0} where
  -- the first of a list, and d where there is none
  abbrev pub first_of : A → List A → A
  first_of d [] = d
  first_of d (x ∷ xs) = x

  -- the last of a list, and d where there is none
  abbrev pub last_of : A → List A → A
  last_of d [] = d
  last_of d (x ∷ xs) = last_of x xs

  -- the one that the rule picks of equals
  abbrev pub pick : Tie → A → List A → A
  pick lowest d xs = first_of d xs
  pick highest d xs = last_of d xs

  -- the candidates that the rule prefers to the one at place k: those before it, or those behind it
  abbrev pub preferred : Tie → ℕ → List A → List A
  preferred lowest k xs = take k xs
  preferred highest k xs = drop (suc k) xs

module _ {A : Type 0} (t : Tie) (c : A → A → Verdict) where
  -- the best candidate, and d where there is none
  unfoldable pub best : A → List A → A
  best d xs = pick t d (unbeatens c xs)

  -- a is the best of xs: it stands at a place, no candidate is better, and each that the rule prefers is worse
  pub record IsBest (xs : List A) (a : A) : Type 0 where
    pub place : ℕ
    pub within : place < length xs
    pub there : get_or xs place a ≡ a
    pub none-better : (x : A) → Memᴰ x xs → ¬ (c x a ≡ Better)
    pub beaten : (x : A) → Memᴰ x (preferred t place xs) → c a x ≡ Better
