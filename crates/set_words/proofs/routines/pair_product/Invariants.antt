use Rattle.exact.proofs.Ground.{◌≡◌, take}
use Rattle.rules.specs.Plan.{plan}
use Rattle.set_words.specs.Given.{score_product}
use Rattle.set_words.proofs.routines.pair_product.Given as goal

abbrev pub invariant-loop-i : goal.invariant-loop-i
invariant-loop-i l = l.product ≡ score_product (plan l.levels l.table) (take l.i-index l.columns) l.a l.b
