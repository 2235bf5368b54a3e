-- The ranking that a lawful comparison gives, and a chain of comparisons.
use Rattle.std.specs.Prelude.{◌≡◌, ◌⊎◌, List, [], ◌∷◌}
use Rattle.exact.specs.Fractions.{then}
use Rattle.exact.specs.declared.fractions.Verdict.{Verdict}
use Rattle.exact.specs.declared.fractions.Verdict.TheVariants.{Better, Equal}

-- among the values for which Good holds: better is transitive, exactly one of better, worse and equal holds, and equal is an equivalence
pub record Ranking {A : Type 0} (Good : A → Type 0) (c : A → A → Verdict) : Type 0 where
  pub better-trans : (x y z : A) → Good x → Good y → Good z → c x y ≡ Better → c y z ≡ Better → c x z ≡ Better
  pub one_holds : (x y : A) → Good x → Good y → (c x y ≡ Better) ⊎ ((c y x ≡ Better) ⊎ (c x y ≡ Equal))
  pub not-both-better : (x y : A) → Good x → Good y → c x y ≡ Better → ¬ (c y x ≡ Better)
  pub not-better-equal : (x y : A) → Good x → Good y → c x y ≡ Better → ¬ (c x y ≡ Equal)
  pub equal-refl : (x : A) → Good x → c x x ≡ Equal
  pub equal-sym : (x y : A) → Good x → Good y → c x y ≡ Equal → c y x ≡ Equal
  pub equal-trans : (x y z : A) → Good x → Good y → Good z → c x y ≡ Equal → c y z ≡ Equal → c x z ≡ Equal

module _ {A : Type 0} where
  -- the first comparison of the chain that tells two values apart decides
  abbrev pub chain : List (A → A → Verdict) → A → A → Verdict
  chain [] x y = Equal
  chain (c ∷ cs) x y = then (c x y) (chain cs x y)
