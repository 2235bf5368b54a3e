-- The words held are those of the standing runs, and R is found in them.
use Rattle.exact.proofs.Ground.{◌∙◌, sym, ap}
use Rattle.rules.proofs.Answered.{left-early}
use Rattle.resolution.specs.Given.{resolution_from}
use Rattle.resolution.specs.Resolution.{resolution_in, resolution_checks, resolution_answer}
use Rattle.resolution.proofs.Answered.{resolution-answered}
use Rattle.held.specs.Held.{plan_in, standing_in}
use Rattle.held.proofs.Sizes.{sized}
use Rattle.held.proofs.Lent.{columns-in, stops, some-run, goes-on}
use Rattle.held_questions.proofs.Rating.{measured}
use Rattle.held_questions.proofs.ratings.resolution_of.Goals as goal

pub returns-in_err-standing_runs : goal.returns-in_err-standing_runs
unfolding resolution_answer
returns-in_err-standing_runs c =
    let h = c.args.held.now in
    let p = plan_in h in
    let rs = standing_in h in
    left-early _ c.from_residual.ensures.1 (stops h c.in_err-standing_runs.ensures (resolution_checks p rs) (resolution_in p rs))

pub resolution_answer-requires : goal.resolution_answer-requires
resolution_answer-requires c = (sized c.requires).columns-high

pub returns : goal.returns
unfolding resolution_answer
returns c =
    let h = c.args.held.now in
    let p = plan_in h in
    let rs = standing_in h in
    let w = c.in_ok-standing_runs.ensures in
    c.resolution_answer.ensures
    ∙ ap (resolution_from h.words) (sym (columns-in c.requires))
    ∙ resolution-answered p rs h.words (measured c.requires (some-run h w))
    ∙ sym (goes-on h w (resolution_checks p rs) (resolution_in p rs))
