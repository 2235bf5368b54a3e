-- The products with the runs passed.
use Rattle.exact.proofs.Ground.{Memᴰ, ◌≡◌, ◌∙◌, ap, ap₂, ℕ, ◌≤◌, ◌+◌, ◌*◌, arith, ◌+ℤ◌, length, get_or, get_or-take, take, w64, to_z, of_z}
use lib.ListN.{length-take}
use Rattle.exact.specs.Lists.{sum}
use Rattle.exact.proofs.Bits.{of}
use Rattle.exact.proofs.Members.{get_or-mem}
use Rattle.rules.specs.Plan.{plan}
use Rattle.set_words.specs.Given.{pair_of}
use Rattle.set_words.proofs.SetWords.{run-starts, start_small, row_small, row-turn}
use Rattle.set_words.proofs.routines.earlier_products.Goals.{Start, In-loop-run, After-pair_product}
use Rattle.set_words.proofs.routines.earlier_products.Goals as goal

module _ (c : Start) where
  -- the run itself
  abbrev own : ℕ
  own = get_or c.args.runs.now c.args.at 0

  own-mem : Memᴰ own c.args.runs.now
  own-mem = get_or-mem c.args.runs.now c.args.at 0 (omega arith)

  -- where a run starts fits
  starts : (f : ℕ) → Memᴰ f c.args.runs.now → f * length c.args.levels.now ≤ 256 * 24
  starts = start_small (plan c.args.levels.now c.args.table.now) c.args.runs.now c.args.columns.now c.requires.0 c.requires.1.0

-- the run of a turn
module _ (c : In-loop-run) where
  run_is : get_or (take c.args.at c.args.runs.now) c.loop-run.run-index 0 ≡ get_or c.args.runs.now c.loop-run.run-index 0
  run_is = get_or-take c.args.at c.args.runs.now c.loop-run.run-index 0 (omega (arith, length-take c.args.at c.args.runs.now))

  run-mem : Memᴰ (get_or (take c.args.at c.args.runs.now) c.loop-run.run-index 0) c.args.runs.now
  run-mem = rw run_is (get_or-mem c.args.runs.now c.loop-run.run-index 0 (omega (arith, length-take c.args.at c.args.runs.now)))

pub overflow_mul-a : goal.overflow_mul-a
overflow_mul-a c = let s = (goal.at.overflow_mul-a c).Start in omega (arith, starts s (own s) (own-mem s))

pub overflow_mul-b : goal.overflow_mul-b
overflow_mul-b c = let d = goal.at.overflow_mul-b c in omega (arith, starts d.Start _ (run-mem d.In-loop-run))

pub pair_product-requires : goal.pair_product-requires
pair_product-requires c =
    let d = goal.at.pair_product-requires c in
    let start = run-starts (plan c.args.levels.now c.args.table.now) c.args.runs.now c.args.columns.now c.requires.0 c.requires.1.0 in
    (c.requires.1.0, (start _ (own-mem d.Start), start _ (run-mem d.In-loop-run)))

-- the sum of this turn, read back from its bits
turn : (c : After-pair_product) → get_or (take c.args.at c.args.runs.now) c.loop-run.run-index 0 ≡ get_or c.args.runs.now c.loop-run.run-index 0 →
    to_z w64 c.loop-run.total-bits +ℤ to_z w64 (of_z w64 c.pair_product.result)
    ≡ sum (take (c.loop-run.run-index + 1) c.args.runs.now)
    (pair_of (plan c.args.levels.now c.args.table.now) c.args.columns.now (get_or c.args.runs.now c.args.at 0))
turn c e =
    let p = plan c.args.levels.now c.args.table.now in
    let f = get_or c.args.runs.now c.args.at 0 in
    ap₂ (λ x y. x +ℤ y) c.loop-run.invariant
    (of c.pair_product.result c.pair_product.type_inv ∙ c.pair_product.ensures ∙ ap (pair_of p c.args.columns.now f) e)
    ∙ row-turn p c.args.runs.now c.args.columns.now c.requires.0 c.requires.1.0 f c.loop-run.run-index (omega (arith, length-take c.args.at c.args.runs.now))

pub add-total-requires : goal.add-total-requires
add-total-requires c =
    let d = goal.at.add-total-requires c in
    let small = row_small (plan c.args.levels.now c.args.table.now) c.args.runs.now c.args.columns.now c.requires.0 c.requires.1.0 in
    rw (turn d.After-pair_product (run_is d.In-loop-run))
    (omega (arith, small (own d.Start) (own-mem d.Start) (c.loop-run.run-index + 1)))

pub loop-run-preserved : goal.loop-run-preserved
loop-run-preserved c =
    let d = goal.at.loop-run-preserved c in
    of c.add-total.result c.add-total.type_inv ∙ c.add-total.ensures ∙ turn d.After-pair_product (run_is d.In-loop-run)

pub returns : goal.returns
returns c =
    let e : c.loop-run.run-index ≡ c.args.at = omega (arith, length-take c.args.at c.args.runs.now) in
    rw e at c.loop-run.invariant
