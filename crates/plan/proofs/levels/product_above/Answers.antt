-- A product above its limit is never brought down by a later level.
use Rattle.exact.proofs.Ground.{sym, arith, lt-ltb}
use Rattle.rules.specs.Plan.{highest_product}
use Rattle.plan.proofs.Loops.{product-grows}
use Rattle.plan.proofs.levels.product_above.Goals as goal

pub returns-then-product-gt-HIGHEST_PRODUCT : goal.returns-then-product-gt-HIGHEST_PRODUCT
returns-then-product-gt-HIGHEST_PRODUCT c =
    let levels = c.args.levels.now in
    let l = c.loop-level in
    sym (lt-ltb _ _ (product-grows levels l.level-index l.product highest_product c.requires (omega arith) l.invariant.1 (rw c.from-product.ensures at c.if-product-gt-HIGHEST_PRODUCT.true)))
