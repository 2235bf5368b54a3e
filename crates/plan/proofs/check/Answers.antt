-- The levels' refusal stands ahead of the table's.
use Rattle.exact.proofs.Ground.{[], mem-head, ◌∙◌, sym, refl, length}
use Rattle.rules.specs.Plan.{plan}
use Rattle.rules.specs.Refusals.{refusal, level_checks, bad_columns}
use Rattle.rules.proofs.Answered.{left-early, ok-accepted}
use Rattle.rules.proofs.Order.{passed_none}
use Rattle.plan.proofs.Checks.{columns-passed, levels-err, levels-ok}
use Rattle.plan.proofs.check.Goals as goal

pub returns-in_err-check_levels : goal.returns-in_err-check_levels
returns-in_err-check_levels c =
    let a = c.args in
    left-early _ c.from_residual.ensures.1 (levels-err a.levels.now a.table.now tt tt c.in_err-check_levels.ensures)

pub check_table-requires : goal.check_table-requires
check_table-requires c =
    let levels = c.args.levels.now in
    columns-passed (length levels)
    (passed_none (level_checks (plan levels [])) tt refl (ok-accepted (refusal (level_checks (plan levels []))) tt c.in_ok-check_levels.ensures)
    (bad_columns (length levels)) (mem-head refl))

pub returns : goal.returns
returns c =
    let a = c.args in
    c.check_table.ensures ∙ sym (levels-ok a.levels.now a.table.now tt tt c.in_ok-check_levels.ensures)
