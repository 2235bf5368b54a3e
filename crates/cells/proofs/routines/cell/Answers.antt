-- A turn adds what one column adds.
use Rattle.exact.proofs.Ground.{mem-head, ◌≡◌, ◌∙◌, sym, ap, ap₂, refl, List, ℕ, ◌+◌, ◌*◌, ◌≤◌, ◌<◌, arith, get_or}
use Rattle.exact.specs.Lists.{from}
use Rattle.rules.specs.Plan.{Plan, plan, columns, level, every_column}
use Rattle.cells.specs.Cells.{bit, sumℕ, agrees, stride_of, cell, cell_of, Strides}
use Rattle.cells.proofs.Radix.{sumℕ-next, times-bit, stride_most}
use Rattle.cells.proofs.routines.cell.Goals as goal

-- what column i adds
module _ (p : Plan) (f g i : ℕ) where
  abbrev weight : ℕ → ℕ
  weight x = stride_of p x * bit (agrees p f g x)

  adds : (strides : List ℕ) → Strides p strides → i < columns p → (same : ℕ) → same ≡ bit (agrees p f g i) → get_or strides i 0 * same ≡ weight i
  adds strides S h same e = ap₂ (λ a b. a * b) (S.at i h) e

  few : weight i ≤ 2_560
  few = omega (arith, times-bit (stride_of p i) (agrees p f g i), stride_most (level p) (every_column p) (level p i))

pub overflow_mul-f : goal.overflow_mul-f
overflow_mul-f c = omega (arith, c.requires.1.0.inside c.args.f (mem-head refl))

pub overflow_add-f : goal.overflow_add-f
overflow_add-f c = omega (arith, c.requires.1.0.inside c.args.f (mem-head refl))

pub bounds-table-f : goal.bounds-table-f
bounds-table-f c = omega (arith, c.requires.1.0.inside c.args.f (mem-head refl))

pub overflow_mul-g : goal.overflow_mul-g
overflow_mul-g c = omega (arith, c.requires.1.1.inside c.args.g (mem-head refl))

pub overflow_add-g : goal.overflow_add-g
overflow_add-g c = omega (arith, c.requires.1.1.inside c.args.g (mem-head refl))

pub bounds-table-g : goal.bounds-table-g
bounds-table-g c = omega (arith, c.requires.1.1.inside c.args.g (mem-head refl))

pub overflow_mul-c : goal.overflow_mul-c
overflow_mul-c c =
    let p = plan c.args.levels.now c.args.table.now in let i = c.loop-i.i in
    omega (arith, adds p c.args.f c.args.g i c.args.strides.now c.requires.0 (omega arith) c.same.result c.same.ensures, few p c.args.f c.args.g i)

pub overflow_add-c : goal.overflow_add-c
overflow_add-c c =
    let p = plan c.args.levels.now c.args.table.now in let i = c.loop-i.i in
    omega (
      arith,
      adds p c.args.f c.args.g i c.args.strides.now c.requires.0 (omega arith) c.same.result c.same.ensures,
      few p c.args.f c.args.g i,
      c.requires.1.0.columns-high,
    )

pub loop-i-preserved : goal.loop-i-preserved
loop-i-preserved c =
    let p = plan c.args.levels.now c.args.table.now in let i = c.loop-i.i in
    let e = adds p c.args.f c.args.g i c.args.strides.now c.requires.0 (omega arith) c.same.result c.same.ensures in (
      ap₂ (λ a b. a + b) c.loop-i.invariant.0 e ∙ sym (sumℕ-next (weight p c.args.f c.args.g i) i),
      omega (arith, e, few p c.args.f c.args.g i),
    )

pub returns : goal.returns
unfolding cell_of cell
returns c =
    let p = plan c.args.levels.now c.args.table.now in
    let e : c.loop-i.i ≡ columns p = omega arith in
    c.loop-i.invariant.0 ∙ ap (λ n. sumℕ (from 0 n) (λ x. stride_of p x * bit (agrees p c.args.f c.args.g x))) e
