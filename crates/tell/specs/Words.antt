-- How far the published words carry: a bound from them alone, below which the runs tell.
use Rattle.std.specs.Prelude.{List, ◌∷◌, ℕ, ◌*◌, ◌-◌, ℤ, nat_abs, length}
use Rattle.exact.specs.Lists.{sum}
use Rattle.exact.specs.Fractions.{reduced}
use Rattle.exact.specs.declared.fractions.Fraction.{Fraction}
use Rattle.sets.specs.Sets.{subsets}
use Rattle.words.specs.Words.{word_of}

module _ {R C : Type 0} (level : C → ℕ) (entry : R → C → ℕ) (rs : List R) (a : C) (J : List C) where
  -- W({a} ∪ K), added up over all parts K of J, the empty one too
  unfoldable pub mixed_words : ℤ
  mixed_words = sum (subsets J) (λ K. word_of level entry rs (a ∷ K))

  -- that sum times s - 1, over n², reduced; s is the level of column a (the sum is never negative)
  unfoldable pub words_figure : Fraction
  words_figure = reduced ((level a - 1) * nat_abs mixed_words) (length rs * length rs)
