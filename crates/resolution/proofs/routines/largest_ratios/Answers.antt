-- The ratios of all columns are those of the columns of several levels.
use Rattle.exact.proofs.Ground.{◌∙◌, sym, ap}
use Rattle.rules.specs.Plan.{plan, level, entry, every_column, several}
use Rattle.sets.specs.Sets.{choose}
use Rattle.plan.proofs.Several.{several-part, several-few}
use Rattle.words.proofs.OneLevel.{words-several}
use Rattle.set_words.proofs.Products.{part-projection}
use Rattle.ratios.specs.Ratios.{ratios_of}
use Rattle.resolution.proofs.Agreement.{all-below}
use Rattle.resolution.proofs.OneLevel.{walk-several}
use Rattle.resolution.proofs.routines.largest_ratios.Goals as goal

pub ratios_of-requires-clause-tabled : goal.ratios_of-requires-clause-tabled
ratios_of-requires-clause-tabled c =
    let p = plan c.args.levels.now c.args.table.now in
    let T = c.requires.tabled.0 in
    rw (c.as_slice.ensures, c.several_levels-several.ensures)
    (T, (part-projection p T.sound.level-low T.sound.small (several (level p) (every_column p)) (several-part p), several-few p T.sound.columns-high))

pub ratios_of-requires-clause-fact : goal.ratios_of-requires-clause-fact
ratios_of-requires-clause-fact c =
    let p = plan c.args.levels.now c.args.table.now in
    let T = c.requires.tabled.0 in
    rw (c.as_slice.ensures, c.several_levels-several.ensures)
    (λ j l k. sym (words-several (level p) (entry p) c.args.runs.now (every_column p) (all-below p c.args.runs.now T.sound) j) ∙ c.requires.fact j l k)

pub returns : goal.returns
returns c =
    let p = plan c.args.levels.now c.args.table.now in
    c.ratios_of.ensures
    ∙ ap (λ cols. ratios_of p c.args.runs.now (choose c.args.size cols) c.args.column) (c.as_slice.ensures ∙ c.several_levels-several.ensures)
    ∙ walk-several p c.args.runs.now c.requires.tabled.0.sound.level-low c.args.size c.args.column
