-- The number so far is that of the columns passed, and stays below the product of all the levels.
use Rattle.exact.proofs.Ground.{ℕ, mem-head, refl, ◌≡◌, ◌∙◌, sym, ◌≤◌, ◌<◌, ◌+◌, ◌*◌, arith, length, get_or, take, take_all}
use Rattle.exact.proofs.Numbers.{mul-below}
use Rattle.exact.proofs.Members.{get_or-mem}
use Rattle.rules.specs.Plan.{plan, level, entry, highest_product}
use Rattle.counts.specs.Numbered.{number_of}
use Rattle.counts.proofs.Turns.{number-next, number_small}
use Rattle.counts.proofs.routines.combination.Goals.{In-loop-i}
use Rattle.counts.proofs.routines.combination.Goals as goal

pub overflow_mul-start : goal.overflow_mul-start
overflow_mul-start c =
    let S = c.requires.sound in
    omega (arith, mul-below c.args.run (length c.args.levels.now) 256 24 (let h = S.numbered c.args.run (mem-head refl) in omega arith) S.columns-high)

pub bounds-levels-i : goal.bounds-levels-i
bounds-levels-i c = c.requires.columns.inside _ (get_or-mem c.args.columns.now c.loop-i.i-index 0 (omega arith))

-- a turn: the number with one column more, and its bound
module _ (c : In-loop-i) where
  abbrev column : ℕ
  column = get_or c.args.columns.now c.loop-i.i-index 0

  next : let p = plan c.args.levels.now c.args.table.now in
      (c.loop-i.number * level p column + entry p c.args.run column ≡
      number_of (level p) (entry p) c.args.run (take (c.loop-i.i-index + 1) c.args.columns.now))
      × (c.loop-i.number * level p column + entry p c.args.run column < highest_product)
  next =
      let a = c.args in
      let p = plan a.levels.now a.table.now in
      let J = a.columns.now in
      let k = c.loop-i.i-index in
      let e : c.loop-i.number * level p column + entry p a.run column ≡ number_of (level p) (entry p) a.run (take (k + 1) J)
      = rw c.loop-i.invariant (sym (number-next (level p) (entry p) a.run J k 0 (omega arith))) in (
        e,
        omega (
          arith,
          e,
          c.requires.columns_bound,
          number_small (level p) (entry p) a.run J (k + 1)
              (λ i m. c.requires.sound.below a.run (mem-head refl) i (c.requires.columns.inside i m)),
        ),
      )

pub overflow_mul-number : goal.overflow_mul-number
overflow_mul-number c = rw c.from.ensures (omega (arith, (next (goal.at.overflow_mul-number c).In-loop-i).1))

pub bounds-table-start : goal.bounds-table-start
bounds-table-start c =
    let h : column (goal.at.bounds-table-start c).In-loop-i < length c.args.levels.now
    = c.requires.columns.inside _ (get_or-mem c.args.columns.now c.loop-i.i-index 0 (omega arith)) in
    omega (arith, c.requires.sound.inside c.args.run (mem-head refl))

pub overflow_add-start : goal.overflow_add-start
overflow_add-start c =
    let h : column (goal.at.overflow_add-start c).In-loop-i < length c.args.levels.now
    = c.requires.columns.inside _ (get_or-mem c.args.columns.now c.loop-i.i-index 0 (omega arith)) in
    let S = c.requires.sound in
    let few : c.args.run ≤ 256 = let h = S.numbered c.args.run (mem-head refl) in omega arith in
    omega (arith, S.columns-high, mul-below c.args.run (length c.args.levels.now) 256 24 few S.columns-high)

pub overflow_add-number : goal.overflow_add-number
overflow_add-number c = rw (c.from.ensures, c.from-in-loop-i.ensures) (omega (arith, (next (goal.at.overflow_add-number c).In-loop-i).1))

pub loop-i-preserved : goal.loop-i-preserved
loop-i-preserved c = rw (c.from.ensures, c.from-in-loop-i.ensures) (next (goal.at.loop-i-preserved c).In-loop-i).0

pub returns : goal.returns
returns c = c.loop-i.invariant ∙ rw (take_all c.loop-i.i-index c.args.columns.now (omega arith)) refl
