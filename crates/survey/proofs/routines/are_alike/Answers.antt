-- The rows are the same where their entries are, column by column.
use Rattle.exact.proofs.Ground.{◌∙◌}
use Rattle.rules.specs.Plan.{plan}
use Rattle.survey.proofs.TableWalks.{run_inside, rows-alike}
use Rattle.survey.proofs.routines.are_alike.Goals as goal

pub returns : goal.returns
returns c =
    let a = c.args in
    let p = plan a.levels.now a.table.now in
    c.eq.ensures ∙ rows-alike p a.f a.g (run_inside p c.requires.0 a.f c.requires.1.0) (run_inside p c.requires.0 a.g c.requires.1.1)
