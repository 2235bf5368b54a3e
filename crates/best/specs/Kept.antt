-- What a loop over the candidates keeps: the best so far.
use Rattle.std.specs.Prelude.{cond, List, [], ◌∷◌}
use Rattle.exact.specs.Fractions.{is_better}
use Rattle.exact.specs.declared.fractions.Verdict.{Verdict}
use Rattle.best.specs.Best.{Tie, lowest, highest}

module _ {A : Type 0} where
  -- of b and of x, which stands behind it: for the lowest place x has to be better; for the highest it is enough that b is not
  abbrev pub winner : Tie → (A → A → Verdict) → A → A → A
  winner lowest c b x = cond (is_better (c x b)) x b
  winner highest c b x = cond (is_better (c b x)) b x

  -- what is kept of b and the candidates behind it
  abbrev pub kept : Tie → (A → A → Verdict) → A → List A → A
  kept t c b [] = b
  kept t c b (x ∷ xs) = kept t c (winner t c b x) xs
