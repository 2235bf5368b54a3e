-- Two sides, each all runs of its plan.
use Rattle.exact.proofs.Ground.{◌∙◌, refl}
use Rattle.rules.specs.Plan.{plan}
use Rattle.rules.specs.Refusals.{of_plan}
use Rattle.compare.proofs.Sides.{standing-sided, sides-compared, whole}
use Rattle.compare.proofs.compare.Goals as goal

pub compare_answer-requires : goal.compare_answer-requires
compare_answer-requires c =
    let a = c.args in (
      standing-sided (whole (plan a.levels1.now a.table1.now) c.side_of.ensures),
      standing-sided (whole (plan a.levels2.now a.table2.now) c.side_of-2.ensures),
    )

pub returns : goal.returns
returns c =
    let a = c.args in
    let p = plan a.levels1.now a.table1.now in
    let q = plan a.levels2.now a.table2.now in
    c.compare_answer.ensures
    ∙ sides-compared (whole p c.side_of.ensures) (whole q c.side_of-2.ensures) (of_plan p) (of_plan q) refl refl
