-- What is answered is made of the measures of all runs.
use Rattle.exact.proofs.Ground.{◌∙◌, sym, ap}
use Rattle.std.specs.Prelude.{Ok}
use Rattle.rules.specs.Plan.{plan, every_run}
use Rattle.rules.specs.Refusals.{refusal, answered, of_plan}
use Rattle.rules.proofs.Answered.{left-early, err-again, ok-is, ok-again}
use Rattle.set_words.proofs.Answers.{good-tabled}
use Rattle.resolution.specs.Charts.{column_checks}
use Rattle.resolution.specs.Given.{measures, generalized_from}
use Rattle.resolution.proofs.Rated.{measures-small}
use Rattle.resolution.proofs.Answered.{generalized-answered, plan-zero, answered-good}
use Rattle.resolution.proofs.generalized.Goals as goal

pub returns-in_err-rating : goal.returns-in_err-rating
returns-in_err-rating c =
    let p = plan c.args.levels.now c.args.table.now in
    let rs = every_run p in
    let r = refusal (of_plan p (column_checks p rs 0)) in
    left-early _ c.from_residual.ensures.1
    (err-again r (measures p rs 0) c.in_err-rating.ensures (generalized_from (measures p rs 0))
    ∙ ap (λ r. answered r (generalized_from (measures p rs 0))) (plan-zero p) ∙ sym (generalized-answered p rs (of_plan p) 0))

pub generalized_of-requires : goal.generalized_of-requires
generalized_of-requires c =
    let p = plan c.args.levels.now c.args.table.now in
    let rs = every_run p in
    let w = c.in_ok-rating.ensures in
    rw (ok-is (refusal (of_plan p (column_checks p rs 0))) (measures p rs 0) w)
    (measures-small p rs 0 (good-tabled p (answered-good p (column_checks p rs 0) tt (measures p rs 0) w)))

pub returns : goal.returns
returns c =
    let p = plan c.args.levels.now c.args.table.now in
    let rs = every_run p in
    let r = refusal (of_plan p (column_checks p rs 0)) in
    let w = c.in_ok-rating.ensures in
    ap Ok (c.generalized_of.ensures ∙ ap generalized_from (ok-is r (measures p rs 0) w))
    ∙ ok-again r (measures p rs 0) w (generalized_from (measures p rs 0))
    ∙ ap (λ r. answered r (generalized_from (measures p rs 0))) (plan-zero p) ∙ sym (generalized-answered p rs (of_plan p) 0)
