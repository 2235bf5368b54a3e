-- What makes a comparison lawful. (That of fractions is: proofs/Lawful.)
use Rattle.std.specs.Prelude.{◌≡◌}
use Rattle.exact.specs.declared.fractions.Verdict.{Verdict}
use Rattle.exact.specs.declared.fractions.Verdict.TheVariants.{Better, Worse, Equal}

abbrev pub opposite : Verdict → Verdict
opposite Better = Worse
opposite Worse = Better
opposite Equal = Equal

-- among the values for which Good holds: none differs from itself, a comparison turned round gives the opposite, better is transitive,
-- and equal values compare alike
pub record Lawful {A : Type 0} (Good : A → Type 0) (c : A → A → Verdict) : Type 0 where
  pub same : (x : A) → Good x → c x x ≡ Equal
  pub turn : (x y : A) → Good x → Good y → c y x ≡ opposite (c x y)
  pub trans : (x y z : A) → Good x → Good y → Good z → c x y ≡ Better → c y z ≡ Better → c x z ≡ Better
  pub alike : (x y z : A) → Good x → Good y → Good z → c x y ≡ Equal → c x z ≡ c y z
