-- The standing runs are those of a held plan.
use Rattle.exact.proofs.Ground.{[], sym}
use Rattle.rules.proofs.Answered.{left-early}
use Rattle.words.specs.Answers.{rows_by_run, row_sums_answer}
use Rattle.held.specs.Held.{plan_in, standing_in}
use Rattle.held.proofs.Sizes.{sized}
use Rattle.held.proofs.Lent.{stops, runs-are, goes-on}
use Rattle.held_questions.proofs.questions.row_sums_of.Goals as goal

pub returns-in_err-runs : goal.returns-in_err-runs
unfolding row_sums_answer
returns-in_err-runs c =
    let h = c.args.held.now in
    let p = plan_in h in
    let rs = standing_in h in
    left-early _ c.from_residual.ensures.1 (stops h c.in_err-runs.ensures ([]) (rows_by_run p rs))

pub rows-requires : goal.rows-requires
rows-requires c =
    let h = c.args.held.now in
    rw (c.levels.ensures, c.table.ensures, c.as_slice.ensures, runs-are h c.in_ok-runs.ensures) ((sized c.requires).sound)

pub returns : goal.returns
unfolding row_sums_answer
returns c =
    let h = c.args.held.now in
    let p = plan_in h in
    let rs = standing_in h in
    let w = c.in_ok-runs.ensures in
    rw (c.rows.ensures, c.levels.ensures, c.table.ensures, c.as_slice.ensures, runs-are h w) (sym (goes-on h w ([]) (rows_by_run p rs)))
