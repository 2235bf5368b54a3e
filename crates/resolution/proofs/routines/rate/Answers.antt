-- The first word above zero is the resolution, and the walk over the sets of so many columns finds the ratios.
use Rattle.exact.proofs.Ground.{◌∙◌, ap, ◌+◌, arith}
use Rattle.std.specs.Prelude.{Ok, Err}
use Rattle.exact.proofs.Bits.{of}
use Rattle.rules.specs.Plan.{plan, level, entry, every_column}
use Rattle.resolution.specs.Given.{measures}
use Rattle.resolution.proofs.Agreement.{none-shorter, all-below}
use Rattle.resolution.proofs.Rated.{found, from_one, read, found-is, rating-none, rating-is}
use Rattle.resolution.proofs.routines.rate.Goals as goal

pub returns-then-m-size : goal.returns-then-m-size
returns-then-m-size c =
    let a = c.args in
    let p = plan a.levels.now a.table.now in
    let e = found p a.runs.now a.words.now c.requires c.resolution-size.result c.resolution-size.ensures in
    ap Err c.plain.ensures ∙ rating-none p a.runs.now (rw e at c.if-m-size.true) (measures p a.runs.now a.column)

pub largest_ratios-ratios-requires-clause-tabled : goal.largest_ratios-ratios-requires-clause-tabled
largest_ratios-ratios-requires-clause-tabled c =
    let a = c.args in
    let p = plan a.levels.now a.table.now in
    (c.requires.tabled, (from_one p a.runs.now a.words.now c.requires c.resolution-size.result c.resolution-size.ensures, c.if-m-size.false))

pub largest_ratios-ratios-requires-clause-fact : goal.largest_ratios-ratios-requires-clause-fact
largest_ratios-ratios-requires-clause-fact c j l h =
    let a = c.args in
    let p = plan a.levels.now a.table.now in
    let e = found p a.runs.now a.words.now c.requires c.resolution-size.result c.resolution-size.ensures in
    none-shorter (level p) (entry p) a.runs.now (every_column p) (all-below p a.runs.now c.requires.tabled.sound) j l (rw e at h)

pub word_at-requires : goal.word_at-requires
word_at-requires c =
    let a = c.args in
    from_one (plan a.levels.now a.table.now) a.runs.now a.words.now c.requires c.resolution-size.result c.resolution-size.ensures

pub returns : goal.returns
returns c =
    let a = c.args in
    let p = plan a.levels.now a.table.now in
    let rs = a.runs.now in
    let words = a.words.now in
    let R = c.resolution-size.result in
    let e = found p rs words c.requires R c.resolution-size.ensures in
    let low = from_one p rs words c.requires R c.resolution-size.ensures in
    ap Ok (found-is p rs a.column R c.largest_ratios-ratios.result e c.largest_ratios-ratios.ensures _ _
    (of _ c.word_at.type_inv ∙ read p rs words c.requires R _ low c.word_at.ensures)
    (of _ c.word_at-2.type_inv ∙ read p rs words c.requires (R + 1) _ (omega arith) c.word_at-2.ensures))
    ∙ rating-is p rs (rw e at c.if-m-size.false) (measures p rs a.column)
