-- The standing runs are those of a held plan.
use Rattle.exact.proofs.Ground.{sym}
use Rattle.rules.proofs.Answered.{left-early}
use Rattle.tell.specs.Answer.{tell_checks, told, tell_answer}
use Rattle.held.specs.Held.{plan_in, standing_in}
use Rattle.held.proofs.Sizes.{sized}
use Rattle.held.proofs.Lent.{stops, runs-are, goes-on}
use Rattle.held_questions.proofs.questions.told_of.Goals as goal

pub returns-in_err-runs : goal.returns-in_err-runs
unfolding tell_answer
returns-in_err-runs c =
    let h = c.args.held.now in
    let p = plan_in h in
    let rs = standing_in h in
    left-early _ c.from_residual.ensures.1 (stops h c.in_err-runs.ensures (tell_checks p c.args.column c.args.others.now) (told p rs c.args.column c.args.others.now))

pub tell_answer-requires : goal.tell_answer-requires
tell_answer-requires c =
    let h = c.args.held.now in
    rw (c.levels.ensures, c.table.ensures, c.as_slice.ensures, runs-are h c.in_ok-runs.ensures) ((sized c.requires).sound)

pub returns : goal.returns
unfolding tell_answer
returns c =
    let h = c.args.held.now in
    let p = plan_in h in
    let rs = standing_in h in
    let w = c.in_ok-runs.ensures in
    rw (c.tell_answer.ensures, c.levels.ensures, c.table.ensures, c.as_slice.ensures, runs-are h w) (sym (goes-on h w (tell_checks p c.args.column c.args.others.now) (told p rs c.args.column c.args.others.now)))
