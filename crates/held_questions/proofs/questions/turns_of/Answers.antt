-- The standing runs are those of a held plan.
use Rattle.exact.proofs.Ground.{sym}
use Rattle.rules.proofs.Answered.{left-early}
use Rattle.advice.specs.Advice.{turns_checks, in_turn, turns_answer}
use Rattle.held_questions.proofs.Lent.{held-stand}
use Rattle.held.specs.Held.{plan_in, standing_in}
use Rattle.held.proofs.Lent.{stops, runs-are, goes-on}
use Rattle.held_questions.proofs.questions.turns_of.Goals as goal

pub returns-in_err-runs : goal.returns-in_err-runs
unfolding turns_answer
returns-in_err-runs c =
    let h = c.args.held.now in
    let p = plan_in h in
    let rs = standing_in h in
    left-early _ c.from_residual.ensures.1 (stops h c.in_err-runs.ensures (turns_checks c.args.k rs) (in_turn p c.args.k rs))

pub turns_answer-requires : goal.turns_answer-requires
turns_answer-requires c =
    let h = c.args.held.now in
    rw (c.levels.ensures, c.table.ensures, c.as_slice.ensures, runs-are h c.in_ok-runs.ensures) (held-stand c.requires)

pub returns : goal.returns
unfolding turns_answer
returns c =
    let h = c.args.held.now in
    let p = plan_in h in
    let rs = standing_in h in
    let w = c.in_ok-runs.ensures in
    rw (c.turns_answer.ensures, c.levels.ensures, c.table.ensures, c.as_slice.ensures, runs-are h w) (sym (goes-on h w (turns_checks c.args.k rs) (in_turn p c.args.k rs)))
