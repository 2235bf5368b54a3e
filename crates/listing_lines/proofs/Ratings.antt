-- The rating of every run, and its lines: those of R, or the one that there is none.
use Rattle.exact.proofs.Ground.{true, false, Bool, List, ℕ, ◌≡◌, ◌∙◌, sym, ap, refl, ltb}
use Rattle.rules.specs.Plan.{Plan, columns, every_run}
use Rattle.rules.specs.Refusals.{refusal, answered}
use Rattle.resolution.specs.Resolution.{resolution_in, generalized_answer}
use Rattle.resolution.specs.Charts.{column_checks}
use Rattle.resolution.specs.Given.{measures, generalized_from}
use Rattle.resolution.proofs.Answered.{column-zero, generalized-answered}
use Rattle.listing_lines.specs.Listing.{resolution_lines}
use Rattle.listing_lines.specs.Parts.{lines_of_rating, Every}

-- the check of column 0 never fails
pub rated-zero : (p : Plan) {rs : List ℕ} → Every p rs →
    answered (refusal (column_checks p rs 0)) (generalized_from (measures p rs 0)) ≡ generalized_answer p (every_run p) (λ checks. checks)
rated-zero p {rs} E =
    ap (λ r. answered r (generalized_from (measures p rs 0))) (column-zero p rs E.good.columns-low)
    ∙ sym (generalized-answered p rs (λ checks. checks) 0) ∙ ap (λ rs. generalized_answer p rs (λ checks. checks)) E.all

pub rating-lines : (p : Plan) → lines_of_rating (generalized_answer p (every_run p) (λ checks. checks)) ≡ resolution_lines p
unfolding generalized_answer
rating-lines p = go (ltb (columns p) (resolution_in p (every_run p))) refl
  where
    go : (b : Bool) → ltb (columns p) (resolution_in p (every_run p)) ≡ b →
        lines_of_rating (generalized_answer p (every_run p) (λ checks. checks)) ≡ resolution_lines p
    go true q = rw q
    go false q = rw q
