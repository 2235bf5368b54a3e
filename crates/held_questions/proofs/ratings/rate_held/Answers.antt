-- The standing runs and their words, as they are held.
use Rattle.exact.proofs.Ground.{sym}
use Rattle.rules.proofs.Answered.{left-early}
use Rattle.resolution.specs.Charts.{column_checks}
use Rattle.resolution.specs.Given.{measures}
use Rattle.held.specs.Held.{plan_in, standing_in}
use Rattle.held.proofs.Lent.{stops, runs-are, some-run, goes-on}
use Rattle.held_questions.proofs.Rating.{measured}
use Rattle.held_questions.proofs.ratings.rate_held.Goals as goal

pub returns-in_err-runs : goal.returns-in_err-runs
returns-in_err-runs c =
    let h = c.args.held.now in
    let p = plan_in h in
    let rs = standing_in h in
    left-early _ c.from_residual.ensures.1 (stops h c.in_err-runs.ensures (column_checks p rs c.args.column) (measures p rs c.args.column))

pub rate_answer-requires : goal.rate_answer-requires
rate_answer-requires c =
    let h = c.args.held.now in
    let w = c.in_ok-runs.ensures in
    rw (c.levels.ensures, c.table.ensures, c.as_slice.ensures, runs-are h w) (measured c.requires (some-run h w))

pub returns : goal.returns
returns c =
    let h = c.args.held.now in
    let p = plan_in h in
    let rs = standing_in h in
    let w = c.in_ok-runs.ensures in
    rw (c.rate_answer.ensures, c.levels.ensures, c.table.ensures, c.as_slice.ensures, runs-are h w)
    (sym (goes-on h w (column_checks p rs c.args.column) (measures p rs c.args.column)))
