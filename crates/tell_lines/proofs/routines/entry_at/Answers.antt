-- The run lies in the table, and its entries are below their levels, of which none is above 16.
use Rattle.exact.proofs.Ground.{mem-head, refl, arith, length}
use Rattle.exact.proofs.Numbers.{mul-below}
use Rattle.tell_lines.proofs.routines.entry_at.Goals as goal

pub overflow_mul-place : goal.overflow_mul-place
overflow_mul-place c =
    let S = c.requires.sound in
    let h = S.numbered c.args.run (mem-head refl) in
    let b = mul-below c.args.run (length c.args.levels.now) 256 24 (omega arith) S.columns-high in
    omega arith

pub overflow_add-place : goal.overflow_add-place
overflow_add-place c =
    let S = c.requires.sound in
    let h = S.numbered c.args.run (mem-head refl) in
    let b = mul-below c.args.run (length c.args.levels.now) 256 24 (omega arith) S.columns-high in
    omega (arith, c.requires.column)

pub bounds-table-place : goal.bounds-table-place
bounds-table-place c = omega (arith, c.requires.sound.inside c.args.run (mem-head refl), c.requires.column)
