-- The product is asked for where each level is at least one.
use Rattle.exact.proofs.Ground.{false, [], ◌≡◌, arith, le-ltb}
use Rattle.rules.specs.Plan.{plan}
use Rattle.rules.specs.Refusals.{bad_level}
use Rattle.plan.proofs.Checks.{levels-passed}
use Rattle.plan.proofs.check_levels.Goals as goal

pub product_above-requires : goal.product_above-requires
product_above-requires c =
    let levels = c.args.levels.now in
    let e : (bad_level (plan levels [])).fails ≡ false = rw (← c.first_bad_level-bad.ensures) (le-ltb _ _ c.if-bad-m.false) in
    record { from_one = λ i h. omega (arith, levels-passed (plan levels []) e i h) }
