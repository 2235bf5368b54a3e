-- A column whose level is out of range is the first such, since none of those passed is.
use Rattle.exact.proofs.Ground.{◌≡◌, ◌∙◌, sym, ◌-◌, arith, length}
use Rattle.exact.proofs.Searches.{first_found, first-none}
use Rattle.rules.specs.Refusals.{first_bad_level}
use Rattle.plan.proofs.Loops.{bad_level_in, search-on}
use Rattle.plan.proofs.levels.first_bad_level.Goals as goal

pub loop-i-init : goal.loop-i-init
unfolding first_bad_level
loop-i-init c =
    let levels = c.args.levels.now in
    let e : length levels - 0 ≡ length levels = omega arith in
    rw e

pub returns-then-is_outside : goal.returns-then-is_outside
returns-then-is_outside c =
    let levels = c.args.levels.now in
    let i = c.loop-i.i in
    sym (c.loop-i.invariant ∙ first_found (bad_level_in levels) i (length levels - i) (omega arith) (sym c.is_outside.ensures ∙ c.if-is_outside.true))

pub loop-i-preserved : goal.loop-i-preserved
loop-i-preserved c =
    let levels = c.args.levels.now in
    let i = c.loop-i.i in
    c.loop-i.invariant ∙ search-on (bad_level_in levels) i (length levels) (omega arith) (sym c.is_outside.ensures ∙ c.if-is_outside.false)

pub returns : goal.returns
returns c =
    let levels = c.args.levels.now in
    let e : length levels ≡ c.loop-i.i = omega arith in
    e ∙ sym (c.loop-i.invariant ∙ first-none (bad_level_in levels) c.loop-i.i (length levels - c.loop-i.i) (omega arith))
