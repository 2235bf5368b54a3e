-- The standing runs are those of a held plan.
use Rattle.exact.proofs.Ground.{[], sym}
use Rattle.rules.specs.Plan.{level, entry, every_column}
use Rattle.rules.proofs.Answered.{left-early}
use Rattle.counts.specs.Counts.{strength, strength_answer}
use Rattle.held.specs.Held.{plan_in, standing_in}
use Rattle.held.proofs.Sizes.{sized}
use Rattle.held.proofs.Lent.{stops, runs-are, some-run, goes-on}
use Rattle.held_questions.proofs.questions.strength_of.Goals as goal

pub returns-in_err-runs : goal.returns-in_err-runs
unfolding strength_answer
returns-in_err-runs c =
    let h = c.args.held.now in
    let p = plan_in h in
    let rs = standing_in h in
    left-early _ c.from_residual.ensures.1 (stops h c.in_err-runs.ensures ([]) (strength (level p) (entry p) rs (every_column p)))

pub strength-requires : goal.strength-requires
strength-requires c =
    let h = c.args.held.now in
    rw (c.levels.ensures, c.table.ensures, c.as_slice.ensures, runs-are h c.in_ok-runs.ensures)
    (record { sound = (sized c.requires).sound; in_bounds = some-run h c.in_ok-runs.ensures })

pub returns : goal.returns
unfolding strength_answer
returns c =
    let h = c.args.held.now in
    let p = plan_in h in
    let rs = standing_in h in
    let w = c.in_ok-runs.ensures in
    rw (c.strength.ensures, c.levels.ensures, c.table.ensures, c.as_slice.ensures, runs-are h w) (sym (goes-on h w ([]) (strength (level p) (entry p) rs (every_column p))))
