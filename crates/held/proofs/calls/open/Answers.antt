-- The plan is held where its checks pass.
use Rattle.exact.proofs.Ground.{◌∙◌, sym}
use Rattle.rules.specs.Plan.{plan}
use Rattle.held.proofs.Opened.{open-good, open-accepted, open-refused}
use Rattle.held.proofs.calls.open.Goals as goal

pub opened-held-requires : goal.opened-held-requires
opened-held-requires c =
    let a = c.args in
    open-good (plan a.levels.now a.table.now) c.check-answer.ensures (sym c.is_ok.ensures.value ∙ c.if-is_ok.true)

pub returns-then-is_ok : goal.returns-then-is_ok
returns-then-is_ok c =
    let a = c.args in
    rw c.opened-held.ensures
    (open-accepted (plan a.levels.now a.table.now) c.check-answer.ensures (sym c.is_ok.ensures.value ∙ c.if-is_ok.true))

pub returns-else-is_ok : goal.returns-else-is_ok
returns-else-is_ok c =
    let a = c.args in
    rw c.empty-held.ensures
    (open-refused (plan a.levels.now a.table.now) c.check-answer.ensures (sym c.is_ok.ensures.value ∙ c.if-is_ok.false))
