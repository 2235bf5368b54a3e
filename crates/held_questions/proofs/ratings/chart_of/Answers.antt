-- The rating of the standing runs holds what the answer is made of.
use Rattle.exact.proofs.Ground.{◌∙◌, sym, ap}
use Rattle.std.specs.Prelude.{Ok}
use Rattle.rules.specs.Refusals.{refusal, answered}
use Rattle.rules.proofs.Answered.{left-early, err-again, ok-is, ok-again, ok-accepted}
use Rattle.resolution.specs.Charts.{column_checks}
use Rattle.resolution.specs.Given.{measures, chart_from}
use Rattle.resolution.proofs.Rated.{measures-small}
use Rattle.resolution.proofs.Answered.{chart-answered}
use Rattle.held.specs.Held.{plan_in, standing_in, of_standing}
use Rattle.held_questions.proofs.Rating.{asked-stand, held-tabled, held-zero}
use Rattle.held_questions.proofs.ratings.chart_of.Goals as goal

pub returns-in_err-rate_held : goal.returns-in_err-rate_held
returns-in_err-rate_held c =
    let h = c.args.held.now in
    let p = plan_in h in
    let rs = standing_in h in
    let x = measures p rs 0 in
    left-early _ c.from_residual.ensures.1
    (err-again (refusal (of_standing h (column_checks p rs 0))) x c.in_err-rate_held.ensures (chart_from x)
    ∙ ap (λ r. answered r (chart_from x)) (held-zero c.requires) ∙ sym (chart-answered p rs (of_standing h) 0))

pub chart_of-requires : goal.chart_of-requires
chart_of-requires c =
    let h = c.args.held.now in
    let p = plan_in h in
    let rs = standing_in h in
    let r = refusal (of_standing h (column_checks p rs 0)) in
    let w = c.in_ok-rate_held.ensures in
    let l = asked-stand h (column_checks p rs 0) (ok-accepted r (measures p rs 0) w) in
    rw (ok-is r (measures p rs 0) w) (measures-small p rs 0 (held-tabled c.requires l))

pub returns : goal.returns
returns c =
    let h = c.args.held.now in
    let p = plan_in h in
    let rs = standing_in h in
    let x = measures p rs 0 in
    let r = refusal (of_standing h (column_checks p rs 0)) in
    let w = c.in_ok-rate_held.ensures in
    ap Ok (c.chart_of.ensures ∙ ap chart_from (ok-is r x w))
    ∙ ok-again r x w (chart_from x)
    ∙ ap (λ r. answered r (chart_from x)) (held-zero c.requires) ∙ sym (chart-answered p rs (of_standing h) 0)
