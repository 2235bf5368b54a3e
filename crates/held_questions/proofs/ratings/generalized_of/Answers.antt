-- The rating of the standing runs holds what the answer is made of.
use Rattle.exact.proofs.Ground.{◌∙◌, sym, ap}
use Rattle.std.specs.Prelude.{Ok}
use Rattle.rules.specs.Refusals.{refusal, answered}
use Rattle.rules.proofs.Answered.{left-early, err-again, ok-is, ok-again, ok-accepted}
use Rattle.resolution.specs.Charts.{column_checks}
use Rattle.resolution.specs.Given.{measures, generalized_from}
use Rattle.resolution.proofs.Rated.{measures-small}
use Rattle.resolution.proofs.Answered.{generalized-answered}
use Rattle.held.specs.Held.{plan_in, standing_in, of_standing}
use Rattle.held_questions.proofs.Rating.{asked-stand, held-tabled, held-zero}
use Rattle.held_questions.proofs.ratings.generalized_of.Goals as goal

pub returns-in_err-rate_held : goal.returns-in_err-rate_held
returns-in_err-rate_held c =
    let h = c.args.held.now in
    let p = plan_in h in
    let rs = standing_in h in
    let x = measures p rs 0 in
    left-early _ c.from_residual.ensures.1
    (err-again (refusal (of_standing h (column_checks p rs 0))) x c.in_err-rate_held.ensures (generalized_from x)
    ∙ ap (λ r. answered r (generalized_from x)) (held-zero c.requires) ∙ sym (generalized-answered p rs (of_standing h) 0))

pub generalized_of-requires : goal.generalized_of-requires
generalized_of-requires c =
    let h = c.args.held.now in
    let p = plan_in h in
    let rs = standing_in h in
    let r = refusal (of_standing h (column_checks p rs 0)) in
    let w = c.in_ok-rate_held.ensures in
    let l = asked-stand h (column_checks p rs 0) (ok-accepted r (measures p rs 0) w) in
    rw (ok-is r (measures p rs 0) w) (measures-small p rs 0 (held-tabled c.requires l))

pub returns : goal.returns
returns c =
    let h = c.args.held.now in
    let p = plan_in h in
    let rs = standing_in h in
    let x = measures p rs 0 in
    let r = refusal (of_standing h (column_checks p rs 0)) in
    let w = c.in_ok-rate_held.ensures in
    ap Ok (c.generalized_of.ensures ∙ ap generalized_from (ok-is r x w))
    ∙ ok-again r x w (generalized_from x)
    ∙ ap (λ r. answered r (generalized_from x)) (held-zero c.requires) ∙ sym (generalized-answered p rs (of_standing h) 0)
