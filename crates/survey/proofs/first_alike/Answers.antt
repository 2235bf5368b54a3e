-- A refusal is the plan's, or that of the run; else the first run alike is answered.
use Rattle.exact.proofs.Ground.{List, [], ◌∷◌, ◌∙◌, sym, refl, ℕ, le-ltb, lt-ltb}
use Rattle.rules.specs.Plan.{Plan, plan, runs, every_run}
use Rattle.rules.specs.Refusals.{Check, refusal, bad_place, plan_checks}
use Rattle.rules.proofs.Answered.{ok-accepted, err-first, ok-first, left-early}
use Rattle.plan.proofs.Checks.{passed-good}
use Rattle.survey.specs.Survey.{first_alike, alike_answer}
use Rattle.survey.proofs.first_alike.Goals as goal

abbrev own : Plan → ℕ → List Check
own p f = bad_place (runs p) f ∷ []

pub returns-in_err-check : goal.returns-in_err-check
unfolding alike_answer
returns-in_err-check c =
    let p = plan c.args.levels.now c.args.table.now in
    left-early c.from_residual.result c.from_residual.ensures.1
    (err-first (plan_checks p) (own p c.args.run) tt tt (first_alike p (every_run p) c.args.run) c.in_err-check.ensures)

pub returns-then-table-levels : goal.returns-then-table-levels
unfolding alike_answer
returns-then-table-levels c =
    let p = plan c.args.levels.now c.args.table.now in
    rw c.plain.ensures
    (sym (ok-first (plan_checks p) (own p c.args.run) tt tt (first_alike p (every_run p) c.args.run) c.in_ok-check.ensures
    ∙ rw (le-ltb c.args.run (runs p) c.if-table-levels.true)))

pub first_alike-requires : goal.first_alike-requires
first_alike-requires c =
    let p = plan c.args.levels.now c.args.table.now in
    (passed-good p refl (ok-accepted (refusal (plan_checks p)) tt c.in_ok-check.ensures), c.if-table-levels.false)

pub returns : goal.returns
unfolding alike_answer
returns c =
    let p = plan c.args.levels.now c.args.table.now in
    rw c.first_alike.ensures
    (sym (ok-first (plan_checks p) (own p c.args.run) tt tt (first_alike p (every_run p) c.args.run) c.in_ok-check.ensures
    ∙ rw (lt-ltb c.args.run (runs p) c.if-table-levels.false)))
