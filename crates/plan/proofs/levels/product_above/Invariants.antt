-- The product so far times that of the levels left is the whole product.
use Rattle.exact.proofs.Ground.{◌≡◌, ◌≤◌, ◌*◌, drop}
use Rattle.exact.specs.Lists.{product}
use Rattle.rules.specs.Plan.{highest_product}
use Rattle.plan.proofs.levels.product_above.Given as goal

abbrev pub invariant-loop-level : goal.invariant-loop-level
invariant-loop-level l = (l.product ≤ highest_product) × (product l.levels ≡ l.product * product (drop l.level-index l.levels))
