-- `value` meets its contract: the smallest level is 1, and the value 0/1, or one less than it is above zero.
use Rattle.exact.proofs.Ground.{map, ◌≡◌, ◌∙◌, ap, ◌-◌, arith}
use Rattle.exact.specs.Lists.{smallest}
use Rattle.rules.specs.Plan.{plan, level}
use Rattle.set_words.specs.Given.{over_pairs}
use Rattle.set_words.proofs.Values.{level-between, value-plain, value-several}
use Rattle.set_words.proofs.routines.value.Goals as goal

pub returns-then-not-relative : goal.returns-then-not-relative
returns-then-not-relative c =
    let a = c.args in
    rw (c.if-not-relative.true)
    (c.word_over.ensures ∙ value-plain (plan a.levels.now a.table.now) a.runs.now a.columns.now)

pub overflow_sub-lowest : goal.overflow_sub-lowest
overflow_sub-lowest c =
    let p = plan c.args.levels.now c.args.table.now in
    let given = c.requires.tabled in
    let range = level-between p c.args.runs.now c.args.columns.now given.0 given.1.0 given.1.1 in
    let known : c.from-lowest.result ≡ smallest (map (level p) c.args.columns.now) = c.from-lowest.ensures ∙ c.smallest_level.ensures in
    omega arith

-- the smallest level is not 1 here
pub word_over-requires-2-clause-tabled : goal.word_over-requires-2-clause-tabled
word_over-requires-2-clause-tabled c =
    let p = plan c.args.levels.now c.args.table.now in
    let given = c.requires.tabled in
    let range = level-between p c.args.runs.now c.args.columns.now given.0 given.1.0 given.1.1 in
    let known : c.from-lowest.result ≡ smallest (map (level p) c.args.columns.now) = c.from-lowest.ensures ∙ c.smallest_level.ensures in
    (given.0, (given.1.0, (omega arith, omega arith)))

pub returns : goal.returns
returns c =
    let a = c.args in
    let p = plan a.levels.now a.table.now in
    let given = c.requires.tabled in
    let range = level-between p a.runs.now a.columns.now given.0 given.1.0 given.1.1 in
    let known : c.from-lowest.result ≡ smallest (map (level p) a.columns.now) = c.from-lowest.ensures ∙ c.smallest_level.ensures in
    rw (c.if-not-relative.false)
    (c.word_over-2.ensures ∙ ap (λ l. over_pairs p a.runs.now a.columns.now (l - 1)) known
    ∙ value-several p a.runs.now a.columns.now (omega arith))
