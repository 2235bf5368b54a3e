-- With more combinations than runs the columns are not even; else each combination has its counter.
use Rattle.exact.proofs.Ground.{◌≡◌, ◌∙◌, sym, arith}
use Rattle.rules.specs.Plan.{plan, level, entry}
use Rattle.counts.specs.Numbered.{product_of}
use Rattle.counts.proofs.Counted.{too_many}
use Rattle.counts.proofs.Turns.{all-below, even-tallies}
use Rattle.counts.proofs.routines.is_even.Goals as goal

pub returns-then-n-product : goal.returns-then-n-product
returns-then-n-product c =
    let a = c.args in
    let p = plan a.levels.now a.table.now in
    sym (too_many (level p) (entry p) a.runs.now a.columns.now
    (all-below p a.runs.now a.columns.now c.requires.sound c.requires.columns) c.requires.in_bounds (omega arith))

pub returns : goal.returns
returns c =
    let a = c.args in
    let p = plan a.levels.now a.table.now in
    let e : c.product_of-product.result ≡ product_of (level p) a.columns.now = omega arith in
    c.are_alike.ensures
    ∙ rw (c.tallies-counters.ensures, e) (even-tallies p a.runs.now a.columns.now c.requires.sound c.requires.columns (omega arith))
