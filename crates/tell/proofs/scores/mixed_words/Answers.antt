-- The levels of the others times the scores in one cell.
use Rattle.exact.proofs.Ground.{◌≡◌, ◌∙◌, sym, ap, ap₂, ◌≤◌, arith, pos, ◌*ℤ◌, w64, to_z, of_z}
use native.Mathlib.Nat.{min-eq_left}
use Rattle.exact.proofs.Bits.{of}
use Rattle.rules.specs.Plan.{plan, level, entry}
use Rattle.counts.specs.Numbered.{product_of}
use Rattle.set_words.proofs.SetWords.{counted-columns}
use Rattle.tell.specs.Words.{mixed_words}
use Rattle.tell.proofs.Mixed.{mixed-pairs, mixed-small}
use Rattle.tell.proofs.scores.mixed_words.Goals.{After-of_size}
use Rattle.tell.proofs.scores.mixed_words.Goals as goal

pub product_of-product-requires-clause-columns : goal.product_of-product-requires-clause-columns
product_of-product-requires-clause-columns c =
    let a = c.args in counted-columns (plan a.levels.now a.table.now) a.runs.now a.others.now c.requires.0.sound c.requires.1

-- the two factors, read back from their bits
factors : (c : After-of_size) →
    let p = plan c.args.levels.now c.args.table.now in
    to_z w64 (of_z w64 c.of_size.result) *ℤ to_z w64 (of_z w64 c.cell_scores-scores.result)
    ≡ mixed_words (level p) (entry p) c.args.runs.now c.args.column c.args.others.now
factors c =
    let a = c.args in
    let p = plan a.levels.now a.table.now in
    let small : product_of (level p) a.others.now ≤ 2_000_000_001 = omega (arith, c.requires.1.small) in
    ap₂ (λ x y. x *ℤ y) (of c.of_size.result c.of_size.type_inv ∙ c.of_size.ensures ∙ ap pos (c.product_of-product.ensures ∙ min-eq_left small))
    (of c.cell_scores-scores.result c.cell_scores-scores.type_inv ∙ c.cell_scores-scores.ensures)
    ∙ sym (mixed-pairs (level p) (entry p) a.runs.now a.column a.others.now)

pub mul-requires : goal.mul-requires
mul-requires c =
    let a = c.args in
    rw (factors (goal.at.mul-requires c).After-of_size)
    (omega (arith, mixed-small (plan a.levels.now a.table.now) a.runs.now a.column a.others.now c.requires.0 c.requires.1))

pub returns : goal.returns
returns c = of c.mul.result c.mul.type_inv ∙ c.mul.ensures ∙ factors (goal.at.returns c).After-of_size
