-- Past the checks the walk finds the groups, and the levels that occur are compared by them.
use Rattle.exact.proofs.Ground.{◌∙◌, ap₂, refl, mem-not_nil}
use Rattle.std.specs.Prelude.{Ok}
use Rattle.rules.specs.Plan.{plan}
use Rattle.rules.specs.Refusals.{refusal}
use Rattle.rules.proofs.Answered.{ok-accepted, ok-again}
use Rattle.tell.specs.Answer.{tell_checks, told}
use Rattle.tell.proofs.Turns.{evidence-tells}
use Rattle.tell.proofs.Asking.{asked-given}
use Rattle.tell.proofs.routines.tell_answer.Goals as goal

pub evidence-joins-requires : goal.evidence-joins-requires
evidence-joins-requires c =
    let a = c.args in
    asked-given (plan a.levels.now a.table.now) a.runs.now a.column a.others.now c.requires refl (ok-accepted _ tt c.in_ok-check_asked.ensures)

pub in_one_group-tells-requires : goal.in_one_group-tells-requires
in_one_group-tells-requires c =
    let a = c.args in
    let A = asked-given (plan a.levels.now a.table.now) a.runs.now a.column a.others.now c.requires refl (ok-accepted _ tt c.in_ok-check_asked.ensures) in
    record { sound = A.sound; column = A.column; others = λ i m. absurd (mem-not_nil m) }

pub returns : goal.returns
returns c =
    let a = c.args in
    let p = plan a.levels.now a.table.now in
    ap₂ (λ t j. Ok (record { tells = t; joins = j }))
    (c.in_one_group-tells.ensures ∙ evidence-tells p a.column a.others.now a.runs.now c.evidence-joins.result c.evidence-joins.ensures)
    c.evidence-joins.ensures
    ∙ ok-again (refusal (tell_checks p a.column a.others.now)) tt c.in_ok-check_asked.ensures (told p a.runs.now a.column a.others.now)
