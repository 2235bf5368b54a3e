-- The product over the columns passed.
use Rattle.exact.proofs.Ground.{◌≡◌, ◌∙◌, ℕ, ◌<◌, ◌+◌, arith, ◌*ℤ◌, ap₂, length, get_or, take, w64, to_z, of_z}
use Rattle.exact.proofs.Bits.{of}
use Rattle.exact.proofs.Members.{get_or-mem}
use Rattle.rules.specs.Plan.{plan}
use Rattle.set_words.specs.Given.{score_product}
use Rattle.set_words.proofs.Products.{product_small, product-turn}
use Rattle.set_words.proofs.routines.pair_product.Goals.{In-loop-i, After-score-score}
use Rattle.set_words.proofs.routines.pair_product.Goals as goal

-- the column of a turn is one of the plan's, and both runs have an entry there
module _ (c : In-loop-i) where
  abbrev i : ℕ
  i = get_or c.args.columns.now c.loop-i.i-index 0

  within : (i < length c.args.levels.now) × (c.args.a + i < length c.args.table.now) × (c.args.b + i < length c.args.table.now)
  within =
      let m = get_or-mem c.args.columns.now c.loop-i.i-index 0 (omega arith) in
      (c.requires.0.inside i m, c.requires.1.0.inside i m, c.requires.1.1.inside i m)

pub bounds-levels-i : goal.bounds-levels-i
bounds-levels-i c = (within (goal.at.bounds-levels-i c).In-loop-i).0

pub overflow_add-a : goal.overflow_add-a
overflow_add-a c = omega (arith, within (goal.at.overflow_add-a c).In-loop-i)

pub bounds-table-a : goal.bounds-table-a
bounds-table-a c = (within (goal.at.bounds-table-a c).In-loop-i).1

pub overflow_add-b : goal.overflow_add-b
overflow_add-b c = omega (arith, within (goal.at.overflow_add-b c).In-loop-i)

pub bounds-table-b : goal.bounds-table-b
bounds-table-b c = (within (goal.at.bounds-table-b c).In-loop-i).2

-- the product of this turn, read back from its bits
turn : (c : After-score-score) →
    to_z w64 c.loop-i.product-bits *ℤ to_z w64 (of_z w64 c.score-score.result)
    ≡ score_product (plan c.args.levels.now c.args.table.now) (take (c.loop-i.i-index + 1) c.args.columns.now) c.args.a c.args.b
turn c =
    ap₂ (λ x y. x *ℤ y) c.loop-i.invariant (of c.score-score.result c.score-score.type_inv ∙ c.score-score.ensures)
    ∙ product-turn (plan c.args.levels.now c.args.table.now) c.args.columns.now c.requires.0 c.args.a c.args.b c.requires.1.0 c.requires.1.1
    c.loop-i.i-index (omega arith)

pub mul-product-requires : goal.mul-product-requires
mul-product-requires c =
    rw (turn (goal.at.mul-product-requires c).After-score-score)
    (omega (
      arith,
      product_small (plan c.args.levels.now c.args.table.now) c.args.columns.now c.requires.0 c.args.a c.args.b c.requires.1.0
          c.requires.1.1 (c.loop-i.i-index + 1),
    ))

pub loop-i-preserved : goal.loop-i-preserved
loop-i-preserved c = of c.mul-product.result c.mul-product.type_inv ∙ c.mul-product.ensures ∙ turn (goal.at.loop-i-preserved c).After-score-score
