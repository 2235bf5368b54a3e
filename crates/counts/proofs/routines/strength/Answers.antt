-- What is found among the columns of several levels tells the strength of all.
use Rattle.exact.proofs.Ground.{◌≡◌, ◌∙◌, sym, ap, length}
use Rattle.rules.specs.Plan.{plan, level, entry, every_column, several}
use Rattle.counts.specs.Counts.{strength}
use Rattle.counts.proofs.Several.{several-columns, all_pass, not-all-pass}
use Rattle.counts.proofs.routines.strength.Goals.{After-as_slice, After-strength_of-found, After-len}
use Rattle.counts.proofs.routines.strength.Goals as goal

-- the columns lent are those of several levels
lent : (c : After-as_slice) → let p = plan c.args.levels.now c.args.table.now in c.as_slice.result.now ≡ several (level p) (every_column p)
lent c = c.as_slice.ensures ∙ c.several_levels-columns.ensures

pub strength_of-found-requires-clause-columns : goal.strength_of-found-requires-clause-columns
strength_of-found-requires-clause-columns c =
    rw (lent (goal.at.strength_of-found-requires-clause-columns c).After-as_slice)
    (several-columns (plan c.args.levels.now c.args.table.now) c.args.runs.now c.requires.sound)

-- what was found is their strength
found : (c : After-strength_of-found) → let p = plan c.args.levels.now c.args.table.now in
    c.strength_of-found.result ≡ strength (level p) (entry p) c.args.runs.now (several (level p) (every_column p))
found c =
    let p = plan c.args.levels.now c.args.table.now in
    c.strength_of-found.ensures ∙ ap (strength (level p) (entry p) c.args.runs.now) (c.as_slice.ensures ∙ c.several_levels-columns.ensures)

many : (c : After-len) → let p = plan c.args.levels.now c.args.table.now in c.len.result ≡ length (several (level p) (every_column p))
many c = c.len.ensures ∙ ap length c.several_levels-columns.ensures

pub returns-then-found-len : goal.returns-then-found-len
returns-then-found-len c =
    let d = (goal.at.returns-then-found-len c).After-len in
    let f = (goal.at.returns-then-found-len c).After-strength_of-found in
    all_pass (plan c.args.levels.now c.args.table.now) c.args.runs.now c.requires.sound c.strength_of-found.result (found f)
    (c.if-found-len.true ∙ many d)

pub returns : goal.returns
returns c =
    let d = (goal.at.returns c).After-len in
    let f = (goal.at.returns c).After-strength_of-found in
    not-all-pass (plan c.args.levels.now c.args.table.now) c.args.runs.now c.requires.sound c.strength_of-found.result (found f)
    (λ e. c.if-found-len.false (e ∙ sym (many d)))
