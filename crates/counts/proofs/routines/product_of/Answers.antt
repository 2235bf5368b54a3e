-- The product so far is that of the columns passed, which the levels that follow do not make smaller.
use Rattle.exact.proofs.Ground.{[], ◌≡◌, ◌∙◌, sym, refl, ◌≤◌, ◌<◌, arith, length, get_or, take_all}
use native.Mathlib.Nat.{min-eq_left}
use Rattle.exact.proofs.Numbers.{mul-below}
use Rattle.exact.proofs.Members.{get_or-mem}
use Rattle.rules.specs.Plan.{plan, level}
use Rattle.counts.specs.Numbered.{product_of}
use Rattle.counts.proofs.Turns.{product-next, product-above}
use Rattle.counts.proofs.routines.product_of.Goals as goal

pub bounds-levels-i : goal.bounds-levels-i
bounds-levels-i c = c.requires.columns.inside _ (get_or-mem c.args.columns.now c.loop-i.i-index 0 (omega arith))

pub overflow_mul-product : goal.overflow_mul-product
overflow_mul-product c =
    let s = get_or c.args.levels.now (get_or c.args.columns.now c.loop-i.i-index 0) 0 in
    let b : s ≤ 255 = omega (arith, c.type_inv.levels (get_or c.args.columns.now c.loop-i.i-index 0)) in
    rw c.from-product.ensures (omega (arith, mul-below c.loop-i.product s 2_000_000_001 255 (omega arith) b))

pub returns-then-limit-product : goal.returns-then-limit-product
returns-then-limit-product c =
    let J = c.args.columns.now in
    product-above (level (plan c.args.levels.now [])) J c.loop-i.i-index 0 c.args.limit c.requires.columns.low (omega arith)
    (rw (← c.loop-i.invariant.so_far) (rw c.from-product.ensures at c.if-limit-product.true))

pub loop-i-preserved : goal.loop-i-preserved
loop-i-preserved c =
    let J = c.args.columns.now in
    let k = c.loop-i.i-index in
    let h : k < length J = omega arith in
    record {
      within = omega arith;
      so_far = rw (c.from-product.ensures, product-next (level (plan c.args.levels.now [])) J k 0 h, ← c.loop-i.invariant.so_far) refl;
    }

pub returns : goal.returns
returns c =
    let J = c.args.columns.now in
    let e : c.loop-i.product ≡ product_of (level (plan c.args.levels.now [])) J
    = c.loop-i.invariant.so_far ∙ rw (take_all c.loop-i.i-index J (omega arith)) in
    e ∙ sym (min-eq_left (omega arith))
