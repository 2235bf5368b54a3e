-- Column 0 is one of every accepted plan, so that only the check of the resolution can fail.
use Rattle.exact.proofs.Ground.{◌∙◌, ap, subst⁻¹}
use Rattle.std.specs.Prelude.{Ok}
use Rattle.rules.specs.Plan.{plan}
use Rattle.rules.specs.Refusals.{refusal}
use Rattle.rules.proofs.Answered.{left-early, err-again, ok-is, ok-again}
use Rattle.resolution.specs.Charts.{column_checks}
use Rattle.resolution.specs.Given.{Measured, measures, generalized_from}
use Rattle.resolution.proofs.Rated.{measures-small}
use Rattle.set_words.specs.Given.{Tabled}
use Rattle.set_words.proofs.Answers.{good-tabled}
use Rattle.listing_lines.proofs.Ratings.{rated-zero}
use Rattle.listing_lines.proofs.routines.rated.Goals as goal

pub rate_answer-requires : goal.rate_answer-requires
rate_answer-requires c =
    let p = plan c.args.levels.now c.args.table.now in
    let E = c.requires.every in
    subst⁻¹ (λ rs. Measured p rs c.args.words.now) E.all (record { tabled = good-tabled p E.good; of-runs = c.requires.of-runs })

pub generalized_of-requires : goal.generalized_of-requires
generalized_of-requires c =
    let p = plan c.args.levels.now c.args.table.now in
    let E = c.requires.every in
    let rs = c.args.runs.now in
    rw (ok-is (refusal (column_checks p rs 0)) (measures p rs 0) c.in_ok-rating.ensures)
    (measures-small p rs 0 (subst⁻¹ (Tabled p) E.all (good-tabled p E.good)))

pub returns-in_err-rating : goal.returns-in_err-rating
returns-in_err-rating c =
    let p = plan c.args.levels.now c.args.table.now in
    let rs = c.args.runs.now in
    left-early _ c.from_residual.ensures.1
    (err-again (refusal (column_checks p rs 0)) (measures p rs 0) c.in_err-rating.ensures (generalized_from (measures p rs 0))
    ∙ rated-zero p c.requires.every)

pub returns : goal.returns
returns c =
    let p = plan c.args.levels.now c.args.table.now in
    let rs = c.args.runs.now in
    let r = refusal (column_checks p rs 0) in
    ap Ok (c.generalized_of.ensures ∙ ap generalized_from (ok-is r (measures p rs 0) c.in_ok-rating.ensures))
    ∙ ok-again r (measures p rs 0) c.in_ok-rating.ensures (generalized_from (measures p rs 0)) ∙ rated-zero p c.requires.every
