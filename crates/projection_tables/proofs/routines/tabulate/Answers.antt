-- The places that it gives are enough.
use Rattle.exact.proofs.Ground.{◌∙◌, sym}
use Rattle.rules.specs.Plan.{plan}
use Rattle.projection_tables.proofs.SetWalk.{enough-little, enough-large}
use Rattle.projection_tables.proofs.routines.tabulate.Goals as goal

pub tabulate_in-requires-clause-enough : goal.tabulate_in-requires-clause-enough
tabulate_in-requires-clause-enough c =
    let a = c.args in
    enough-little (plan a.levels.now a.table.now) a.runs.now a.f c.requires.0.sound c.requires.1.0.high (sym c.is_little.ensures ∙ c.if-is_little.true)

pub tabulate_in-requires-else-is_little-clause-enough : goal.tabulate_in-requires-else-is_little-clause-enough
tabulate_in-requires-else-is_little-clause-enough c =
    let a = c.args in
    enough-large (plan a.levels.now a.table.now) a.runs.now a.f c.requires.0.sound c.requires.1.0.high
