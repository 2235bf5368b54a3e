-- A refusal is the plan's, or that of the column or the level; else it is answered whether the level occurs.
use Rattle.exact.proofs.Ground.{List, [], ◌∷◌, ◌∙◌, sym, refl, ℕ, arith, le-ltb, lt-ltb}
use Rattle.rules.specs.Plan.{Plan, plan, columns, level, every_run}
use Rattle.rules.specs.Refusals.{Check, refusal, plain, bad_place, plan_checks}
use Rattle.rules.proofs.Answered.{ok-accepted, err-first, ok-first, left-early}
use Rattle.plan.proofs.Checks.{passed-good}
use Rattle.survey.specs.Survey.{occurs, occurs_answer}
use Rattle.survey.proofs.level_occurs.Goals as goal
use Rattle.survey.proofs.level_occurs.Goals.{then-levels-column-via-then-levels-column, then-levels-column-via-else-levels-column+then-levels-column-2}

-- the checks of column i and its level e
abbrev own : Plan → ℕ → ℕ → List Check
own p i e = bad_place (columns p) i ∷ bad_place (level p i) e ∷ []

pub returns-in_err-check : goal.returns-in_err-check
unfolding occurs_answer
returns-in_err-check c =
    let p = plan c.args.levels.now c.args.table.now in
    left-early c.from_residual.result c.from_residual.ensures.1
    (err-first (plan_checks p) (own p c.args.column c.args.level) tt tt (occurs p (every_run p) c.args.column c.args.level) c.in_err-check.ensures)

pub returns-then-levels-column : goal.returns-then-levels-column
unfolding occurs_answer
returns-then-levels-column c =
    let p = plan c.args.levels.now c.args.table.now in
    let i = c.args.column in
    let e = c.args.level in
    rw c.plain.ensures
    (sym (ok-first (plan_checks p) (own p i e) tt tt (occurs p (every_run p) i e) c.in_ok-check.ensures
    ∙ elim c.then-levels-column.branch [
      | then-levels-column-via-then-levels-column w ↦ rw (le-ltb i (columns p) w.if-levels-column.true)
      | then-levels-column-via-else-levels-column+then-levels-column-2 w ↦
          rw (lt-ltb i (columns p) w.if-levels-column.false, le-ltb e (level p i) w.if-levels-column-2.true)
    ]))

pub occurs-requires : goal.occurs-requires
occurs-requires c =
    let p = plan c.args.levels.now c.args.table.now in
    (passed-good p refl (ok-accepted (refusal (plan_checks p)) tt c.in_ok-check.ensures), omega arith)

pub returns : goal.returns
unfolding occurs_answer
returns c =
    let p = plan c.args.levels.now c.args.table.now in
    let i = c.args.column in
    let e = c.args.level in
    rw c.occurs.ensures
    (sym (ok-first (plan_checks p) (own p i e) tt tt (occurs p (every_run p) i e) c.in_ok-check.ensures
    ∙ rw (lt-ltb i (columns p) (omega arith), lt-ltb e (level p i) (omega arith))))
