-- W(I) of the runs passed, one run more each turn.
use Rattle.exact.proofs.Ground.{Memᴰ, ◌≡◌, ◌∙◌, refl, ℕ, ◌≤◌, ◌+◌, ◌*◌, arith, pos, nat_abs, ◌*ℤ◌, ◌+ℤ◌, get_or, take, take_all, w64, to_z, of_z}
use Rattle.exact.specs.Lists.{sum}
use Rattle.exact.proofs.Bits.{of}
use Rattle.exact.proofs.Order.{nat_abs-+, nat_abs-*}
use Rattle.exact.proofs.Members.{get_or-mem}
use Rattle.rules.specs.Plan.{Plan, plan, level, entry}
use Rattle.words.specs.Words.{word_of}
use Rattle.set_words.specs.Given.{pair_of}
use Rattle.set_words.proofs.SetWords.{run-starts, start_small, row_small, word_taken, word-turn}
use Rattle.set_words.proofs.routines.word_by_pairs.Goals.{Start, In-loop-k, After-pair_product-own, After-mul, After-add}
use Rattle.set_words.proofs.routines.word_by_pairs.Goals as goal

pub loop-k-init : goal.loop-k-init
unfolding word_of
loop-k-init c = refl

-- the run of a turn
module _ (c : In-loop-k) where
  abbrev given : Plan
  given = plan c.args.levels.now c.args.table.now

  abbrev run : ℕ
  run = get_or c.args.runs.now c.loop-k.k 0

  run-mem : Memᴰ run c.args.runs.now
  run-mem = get_or-mem c.args.runs.now c.loop-k.k 0 (omega arith)

pub overflow_mul-a : goal.overflow_mul-a
overflow_mul-a c =
    let d = (goal.at.overflow_mul-a c).In-loop-k in
    omega (arith, start_small (given d) c.args.runs.now c.args.columns.now c.requires.0 c.requires.1 (run d) (run-mem d))

pub pair_product-own-requires : goal.pair_product-own-requires
pair_product-own-requires c =
    let d = (goal.at.pair_product-own-requires c).In-loop-k in
    let own = run-starts (given d) c.args.runs.now c.args.columns.now c.requires.0 c.requires.1 (run d) (run-mem d) in
    (c.requires.1, (own, own))

-- the products with the earlier runs, read back from their bits
module _ (c : After-pair_product-own) (m : Memᴰ (get_or c.args.runs.now c.loop-k.k 0) c.args.runs.now) where
  abbrev p : Plan
  p = plan c.args.levels.now c.args.table.now

  earlier : to_z w64 (of_z w64 c.earlier_products-earlier.result)
      ≡ sum (take c.loop-k.k c.args.runs.now) (pair_of p c.args.columns.now (get_or c.args.runs.now c.loop-k.k 0))
  earlier = of c.earlier_products-earlier.result c.earlier_products-earlier.type_inv ∙ c.earlier_products-earlier.ensures

  earlier-small : nat_abs (to_z w64 (of_z w64 c.earlier_products-earlier.result)) ≤ 256 * 2_000_000_000
  earlier-small =
      rw earlier (row_small p c.args.runs.now c.args.columns.now c.requires.0 c.requires.1 (get_or c.args.runs.now c.loop-k.k 0) m c.loop-k.k)

pub mul-requires : goal.mul-requires
mul-requires c =
    let d = goal.at.mul-requires c in
    omega (arith, nat_abs-* (pos 2) (to_z w64 (of_z w64 c.earlier_products-earlier.result)), earlier-small d.After-pair_product-own (run-mem d.In-loop-k))

doubled : (c : After-mul) → to_z w64 (of_z w64 c.mul.result) ≡ pos 2 *ℤ to_z w64 (of_z w64 c.earlier_products-earlier.result)
doubled c = of c.mul.result c.mul.type_inv ∙ c.mul.ensures

-- W(I) of the runs passed is small
so_far : (c : Start) (k : ℕ) → let p = plan c.args.levels.now c.args.table.now in
    nat_abs (word_of (level p) (entry p) (take k c.args.runs.now) c.args.columns.now) ≤ 256 * (256 * 2_000_000_000)
so_far c k = word_taken (plan c.args.levels.now c.args.table.now) c.args.runs.now c.args.columns.now c.requires.0 c.requires.1 k

pub add-requires : goal.add-requires
add-requires c =
    let d = goal.at.add-requires c in
    let more = to_z w64 (of_z w64 c.earlier_products-earlier.result) in
    let small : nat_abs (to_z w64 c.loop-k.word-bits) ≤ 256 * (256 * 2_000_000_000) = rw c.loop-k.invariant (so_far d.Start c.loop-k.k) in
    rw (doubled d.After-mul)
    (omega (
      arith,
      nat_abs-+ (to_z w64 c.loop-k.word-bits) (pos 2 *ℤ more),
      nat_abs-* (pos 2) more,
      earlier-small d.After-pair_product-own (run-mem d.In-loop-k),
    ))

-- the word with this run, read back from its bits
turn : (c : After-add) → to_z w64 (of_z w64 c.mul.result) ≡ pos 2 *ℤ to_z w64 (of_z w64 c.earlier_products-earlier.result) →
    let p = plan c.args.levels.now c.args.table.now in
    to_z w64 (of_z w64 c.add.result) +ℤ to_z w64 (of_z w64 c.pair_product-own.result)
    ≡ word_of (level p) (entry p) (take (c.loop-k.k + 1) c.args.runs.now) c.args.columns.now
turn c e =
    let p = plan c.args.levels.now c.args.table.now in
    let own = c.pair_product-own in
    let earlier = c.earlier_products-earlier in
    rw (
      of c.add.result c.add.type_inv,
      c.add.ensures,
      of own.result own.type_inv,
      own.ensures,
      e,
      of earlier.result earlier.type_inv,
      earlier.ensures,
      c.loop-k.invariant,
    )
    (word-turn p c.args.runs.now c.args.columns.now c.requires.0 c.requires.1 c.loop-k.k (omega arith))

pub add-word-requires : goal.add-word-requires
add-word-requires c =
    let d = goal.at.add-word-requires c in
    rw (turn d.After-add (doubled d.After-mul)) (omega (arith, so_far d.Start (c.loop-k.k + 1)))

pub loop-k-preserved : goal.loop-k-preserved
loop-k-preserved c =
    let d = goal.at.loop-k-preserved c in
    of c.add-word.result c.add-word.type_inv ∙ c.add-word.ensures ∙ turn d.After-add (doubled d.After-mul)

pub returns : goal.returns
returns c = rw (take_all c.loop-k.k c.args.runs.now (omega arith)) at c.loop-k.invariant
