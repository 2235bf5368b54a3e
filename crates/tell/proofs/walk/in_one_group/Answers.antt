-- Each run passed has a level of the first run's group.
use Rattle.exact.proofs.Ground.{[], ◌∙◌, sym, arith}
use Rattle.rules.specs.Plan.{plan}
use Rattle.tell.proofs.Turns.{asked-run, alike_same, alike-differs}
use Rattle.tell.proofs.walk.in_one_group.Goals as goal

pub level_of-requires : goal.level_of-requires
level_of-requires c =
    let a = c.args in asked-run (plan a.levels.now a.table.now) a.runs.now a.column [] c.requires 0 (omega arith)

pub level_of-requires-in-loop-k : goal.level_of-requires-in-loop-k
level_of-requires-in-loop-k c =
    let a = c.args in asked-run (plan a.levels.now a.table.now) a.runs.now a.column [] c.requires c.loop-k.k (omega arith)

pub returns-then-groups-level : goal.returns-then-groups-level
returns-then-groups-level c =
    let a = c.args in
    sym (sym c.loop-k.invariant ∙ alike-differs (plan a.levels.now a.table.now) a.column a.runs.now a.groups c.from-first.result c.from-level.result c.loop-k.k
    (c.from-first.ensures ∙ c.level_of.ensures.is) (c.from-level.ensures ∙ c.level_of-in-loop-k.ensures.is) (omega arith) c.if-groups-level.true)

pub loop-k-preserved : goal.loop-k-preserved
loop-k-preserved c =
    let a = c.args in
    sym (alike_same (plan a.levels.now a.table.now) a.column a.runs.now a.groups c.from-first.result c.from-level.result c.loop-k.k
    (c.from-first.ensures ∙ c.level_of.ensures.is) (c.from-level.ensures ∙ c.level_of-in-loop-k.ensures.is) (omega arith) c.if-groups-level.false)
    ∙ c.loop-k.invariant
