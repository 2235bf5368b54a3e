-- An accepted call changes the mark, and a refused one hands the plan back as it was.
use Rattle.exact.proofs.Ground.{◌∙◌, sym}
use Rattle.held.specs.Held.{strikes}
use Rattle.held.proofs.Branches.{call-refused, call-accepted, call-changes}
use Rattle.held.proofs.calls.strike.Goals as goal

pub remark-requires : goal.remark-requires
remark-requires c = let a = c.args in call-changes a.held (strikes a.run) c.check_strike-answer.ensures c.requires (sym c.is_ok.ensures.value ∙ c.if-is_ok.true)

pub returns-then-is_ok : goal.returns-then-is_ok
returns-then-is_ok c =
    let a = c.args in rw c.remark.ensures (call-accepted a.held (strikes a.run) c.check_strike-answer.ensures (sym c.is_ok.ensures.value ∙ c.if-is_ok.true))

pub returns-else-is_ok : goal.returns-else-is_ok
returns-else-is_ok c = let a = c.args in call-refused a.held (strikes a.run) c.check_strike-answer.ensures (sym c.is_ok.ensures.value ∙ c.if-is_ok.false)
