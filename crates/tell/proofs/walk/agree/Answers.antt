-- Each column passed is one in which the two runs agree.
use Rattle.exact.proofs.Ground.{eq-eqb, ne_eqb, refl, sym, ◌∙◌, [], ◌∷◌, Memᴰ, mem-head, mem-tail, ℕ, ◌+◌, ◌*◌, ◌≤◌, ◌<◌, arith, eqb, length, get_or}
use Rattle.exact.proofs.Numbers.{mul-below}
use Rattle.exact.proofs.Members.{get_or-mem}
use Rattle.rules.specs.Plan.{Plan, plan, columns, entry}
use Rattle.plan.specs.Good.{Sound}
use Rattle.counts.proofs.Turns.{all-next, all-passed}
use Rattle.tell.proofs.walk.agree.Goals as goal

-- where the entries of one of two runs start, and where they end
module _ (p : Plan) (f g : ℕ) (S : Sound p (f ∷ g ∷ [])) (h : ℕ) (m : Memᴰ h (f ∷ g ∷ [])) where
  starts : h * columns p ≤ 256 * 24
  starts = mul-below h (columns p) 256 24 (let n = S.numbered h m in omega arith) S.columns-high

  held : (i : ℕ) → i < columns p → h * columns p + i < length p.table
  held i l = omega (arith, S.inside h m)

pub overflow_mul-a : goal.overflow_mul-a
overflow_mul-a c =
    let a = c.args in omega (arith, starts (plan a.levels.now a.table.now) a.f a.g c.requires.0 a.f (mem-head refl))

pub overflow_mul-b : goal.overflow_mul-b
overflow_mul-b c =
    let a = c.args in omega (arith, starts (plan a.levels.now a.table.now) a.f a.g c.requires.0 a.g (mem-tail (mem-head refl)))

pub overflow_add-a : goal.overflow_add-a
overflow_add-a c =
    let a = c.args in
    let i = c.requires.1 _ (get_or-mem a.columns.now c.loop-i.i-index 0 (omega arith)) in
    omega (arith, i, c.requires.0.columns-high, starts (plan a.levels.now a.table.now) a.f a.g c.requires.0 a.f (mem-head refl))

pub bounds-table-a : goal.bounds-table-a
bounds-table-a c =
    let a = c.args in
    held (plan a.levels.now a.table.now) a.f a.g c.requires.0 a.f (mem-head refl) _
    (c.requires.1 _ (get_or-mem a.columns.now c.loop-i.i-index 0 (omega arith)))

pub overflow_add-b : goal.overflow_add-b
overflow_add-b c =
    let a = c.args in
    let i = c.requires.1 _ (get_or-mem a.columns.now c.loop-i.i-index 0 (omega arith)) in
    omega (arith, i, c.requires.0.columns-high, starts (plan a.levels.now a.table.now) a.f a.g c.requires.0 a.g (mem-tail (mem-head refl)))

pub bounds-table-b : goal.bounds-table-b
bounds-table-b c =
    let a = c.args in
    held (plan a.levels.now a.table.now) a.f a.g c.requires.0 a.g (mem-tail (mem-head refl)) _
    (c.requires.1 _ (get_or-mem a.columns.now c.loop-i.i-index 0 (omega arith)))

pub returns-then-table-a : goal.returns-then-table-a
returns-then-table-a c =
    let a = c.args in
    let p = plan a.levels.now a.table.now in
    let J = a.columns.now in
    let i = get_or J c.loop-i.i-index 0 in
    sym (sym c.loop-i.invariant ∙ all-next (λ i. eqb (entry p a.f i) (entry p a.g i)) J c.loop-i.i-index 0 (omega arith)
    ∙ rw (ne_eqb (entry p a.f i) (entry p a.g i) c.if-table-a.true))

pub loop-i-preserved : goal.loop-i-preserved
loop-i-preserved c =
    let a = c.args in
    let p = plan a.levels.now a.table.now in
    let J = a.columns.now in
    let i = get_or J c.loop-i.i-index 0 in
    sym (rw (eq-eqb (entry p a.f i) (entry p a.g i) c.if-table-a.false)
    at (all-next (λ i. eqb (entry p a.f i) (entry p a.g i)) J c.loop-i.i-index 0 (omega arith))) ∙ c.loop-i.invariant

pub returns : goal.returns
returns c =
    let a = c.args in
    let p = plan a.levels.now a.table.now in
    sym (sym c.loop-i.invariant ∙ all-passed (λ i. eqb (entry p a.f i) (entry p a.g i)) a.columns.now c.loop-i.i-index (omega arith))
