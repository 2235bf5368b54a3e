-- What a question to a held plan hands to the routines that rate the standing runs, and what is asked of column 0.
use Rattle.exact.proofs.Ground.{List, [], ◌∷◌, ◌≡◌, ◌∙◌, sym, ap, ℕ, ℕ_discrete, ◌≤◌, arith, length}
use Rattle.rules.specs.Plan.{columns}
use Rattle.rules.specs.Refusals.{Check, refusal, or_else, of_held}
use Rattle.rules.proofs.Ranges.{or-refused}
use Rattle.set_words.specs.Given.{Tabled}
use Rattle.resolution.specs.Charts.{column_checks}
use Rattle.resolution.specs.Given.{Measured}
use Rattle.resolution.specs.Resolution.{resolution_checks}
use Rattle.resolution.proofs.Answered.{column-zero}
use Rattle.held.specs.declared.Held.{Held}
use Rattle.held.specs.Held.{IsHeld, plan_in, standing_in, of_standing}
use Rattle.held.proofs.History.{words-standing}
use Rattle.held.proofs.Sizes.{sized}
use Rattle.held.proofs.Lent.{columns-in, standing-begins, some-stand, some_runs}

-- where a question is not refused, some run stands
pub asked-stand : (h : Held) (checks : List Check) → (refusal (of_standing h checks)).number ≡ 0 → 1 ≤ length (standing_in h)
asked-stand h checks z = go (standing_in h) z
  where
    go : (rs : List ℕ) → (refusal (of_held rs checks)).number ≡ 0 → 1 ≤ length rs
    go [] z = absurd (omega arith)
    go (f ∷ rs) z = omega arith

module _ {h : Held} (H : IsHeld h) where
  pub held-tabled : 1 ≤ length (standing_in h) → Tabled (plan_in h) (standing_in h)
  held-tabled l = record { sound = (sized H).sound; some = l }

  pub measured : 1 ≤ length (standing_in h) → Measured (plan_in h) (standing_in h) h.words
  measured l = record { tabled = held-tabled l; of-runs = words-standing H }

  -- a plan with a standing run has a column 0
  pub held-zero :
      let p = plan_in h in
      let rs = standing_in h in
      refusal (of_standing h (column_checks p rs 0)) ≡ refusal (of_standing h (resolution_checks p rs))
  held-zero = go (ℕ_discrete (refusal (of_standing h [])).number 0)
    where
      go : Dec ((refusal (of_standing h [])).number ≡ 0) →
          refusal (of_standing h (column_checks (plan_in h) (standing_in h) 0)) ≡ refusal (of_standing h (resolution_checks (plan_in h) (standing_in h)))
      go (yes z) =
          let some : 1 ≤ columns (plan_in h) = rw (columns-in H) ((sized H).columns-low (some_runs H (some-stand h z))) in
          standing-begins h (column_checks (plan_in h) (standing_in h) 0)
          ∙ ap (or_else (refusal (of_standing h []))) (column-zero (plan_in h) (standing_in h) some)
          ∙ sym (standing-begins h (resolution_checks (plan_in h) (standing_in h)))
      go (no n) =
          standing-begins h (column_checks (plan_in h) (standing_in h) 0)
          ∙ or-refused (refusal (of_standing h [])) (refusal (column_checks (plan_in h) (standing_in h) 0)) n
          ∙ sym (or-refused (refusal (of_standing h [])) (refusal (resolution_checks (plan_in h) (standing_in h))) n)
          ∙ sym (standing-begins h (resolution_checks (plan_in h) (standing_in h)))
