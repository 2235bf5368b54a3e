-- The row sums that the words' routine gives: each run's stand at its place in the list, and decide as the losses do.
use Rattle.exact.proofs.Ground.{List, ◌≡◌, ◌∙◌, sym, ap, ap₂, ℕ, ◌≤◌, ◌<◌, length, get_or, take, length-map}
use Rattle.exact.specs.Lists.{from}
use Rattle.exact.proofs.Members.{get_or-mem}
use Rattle.rules.specs.Plan.{Plan, columns, most_columns}
use Rattle.words.specs.declared.Sums.{Sums}
use Rattle.words.specs.Given.{others_list, others_by_place}
use Rattle.words.proofs.RowsByPair.{past, others-at}
use Rattle.compare.proofs.OfPlan.{first-lengths}
use Rattle.advice.specs.Advice.{loss_order}
use Rattle.advice.specs.Rows.{larger_row}
use Rattle.advice.specs.Given.{Standing}
use Rattle.advice.proofs.Largest.{row_of, row_to, loss-row}

module _ (p : Plan) (rs : List ℕ) (S : Standing p rs) {rows : List Sums} (are : rows ≡ others_by_place p rs) where
  row_at : (k : ℕ) → k < length rs → (get_or rows k past).sums ≡ others_list p rs (get_or rs k 0)
  row_at k h = ap (λ l. (get_or l k past).sums) are ∙ ap (λ s. s.sums) (others-at p rs k h)

  pub length_at : (k : ℕ) → k < length rs → length (get_or rows k past).sums ≡ most_columns
  unfolding others_list
  length_at k h = ap length (row_at k h) ∙ length-map (from 1 most_columns) (row_of p rs (get_or rs k 0))

  lengths-at : (k : ℕ) → k < length rs → take (columns p) (get_or rows k past).sums ≡ row_to p rs (get_or rs k 0)
  unfolding others_list
  lengths-at k h = ap (take (columns p)) (row_at k h) ∙ first-lengths (row_of p rs (get_or rs k 0)) (columns p) S.sound.columns-high

  -- what two rows decide is what the losses decide
  pub rows-decide : 2 ≤ length rs → (k e : ℕ) → k < length rs → e < length rs →
      larger_row (take (columns p) (get_or rows k past).sums) (take (columns p) (get_or rows e past).sums) ≡ loss_order p rs (get_or rs k 0) (get_or rs e 0)
  rows-decide two k e h l =
      ap₂ larger_row (lengths-at k h) (lengths-at e l)
      ∙ sym (loss-row p rs S.sound S.rising two (get_or rs k 0) (get_or rs e 0) (get_or-mem rs k 0 h) (get_or-mem rs e 0 l))
