-- A column that has the level is one more.
use Rattle.exact.proofs.Ground.{◌≡◌, ◌∙◌, sym, ap, ap₂, ℕ, ◌+◌, arith, Bool, eqb, length, get_or}
use Rattle.exact.specs.Lists.{from, count}
use Rattle.exact.proofs.Lists.{count_most}
use Rattle.exact.proofs.Numbers.{length_from}
use Rattle.cells.specs.Cells.{members}
use Rattle.cells.proofs.Radix.{bit-most, count_next}
use Rattle.cells.proofs.strides.members_of.Goals as goal

pub overflow_add-k : goal.overflow_add-k
overflow_add-k c =
    let k = c.loop-level.level-index in
    let has : ℕ → Bool = λ x. eqb c.args.s (get_or c.args.levels.now x 0) in
    omega (arith, c.same-k.ensures, bit-most (has k), c.loop-level.invariant, count_most has (from 0 k), length_from 0 k, c.requires)

pub loop-level-preserved : goal.loop-level-preserved
loop-level-preserved c =
    ap₂ (λ a b. a + b) c.loop-level.invariant c.same-k.ensures
    ∙ sym (count_next (λ x. eqb c.args.s (get_or c.args.levels.now x 0)) c.loop-level.level-index)

pub returns : goal.returns
unfolding members
returns c =
    let e : c.loop-level.level-index ≡ length c.args.levels.now = omega arith in
    c.loop-level.invariant ∙ ap (λ n. count (λ x. eqb c.args.s (get_or c.args.levels.now x 0)) (from 0 n)) e
