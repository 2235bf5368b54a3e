-- The words from the sums over each pair of different runs once.
use Rattle.exact.proofs.Ground.{List, ◌≡◌, ◌∙◌, sym, ap, ℕ, pos, ◌*ℤ◌, ◌+ℤ◌, length}
use Rattle.exact.proofs.Numbers.{map-from-cong}
use Rattle.exact.proofs.Sums.{sum-cong, sum-const}
use Rattle.rules.specs.Plan.{Plan, level, entry, every_column}
use Rattle.pairs.specs.Words.{diagonal}
use Rattle.pairs.specs.Given.{once, once_list}
use Rattle.pairs.proofs.Laws.{total-once, pair-sym, pair-self, word-pairs}
use Rattle.pairs.proofs.OfPlan.{of_pair}
use Rattle.words.specs.Given.{both_orders}
use Rattle.words.specs.Answers.{word_list, diagonal_list}

module _ (p : Plan) where
  -- counted double, and the pairs of a run with itself, of which each adds E
  pub word-once : (rs : List ℕ) → both_orders (length rs) (diagonal_list p) (once_list p rs) ≡ word_list p rs
  unfolding both_orders diagonal_list once_list word_list
  word-once rs =
      map-from-cong 1 24 (λ j. sym (
      word-pairs (level p) (entry p) rs (every_column p) j
      ∙ total-once (λ f g. of_pair p f j g) (pair-sym (level p) (entry p) (every_column p) j) rs
      ∙ ap (λ z. pos 2 *ℤ once (λ f g. of_pair p f j g) rs +ℤ z)
      (sum-cong rs (pair-self (level p) (entry p) (every_column p) j) ∙ sum-const rs (diagonal (level p) (every_column p) j))))
