-- `level_of` meets its contract: the run lies in the table, and its entries are below their levels, of which none is above 16.
use Rattle.exact.proofs.Ground.{refl, mem-head, ◌+◌, ◌*◌, ◌≤◌, ◌<◌, arith, length}
use Rattle.exact.proofs.Numbers.{mul-below}
use Rattle.rules.specs.Plan.{plan, entry}
use Rattle.tell.proofs.walk.level_of.Statement.{statement}
use Rattle.tell.proofs.walk.level_of.Tie as tie

module _ (s : tie.Start) where
  starts : s.args.f * length s.args.levels.now ≤ 256 * 24
  starts =
      let S = s.requires.sound in
      mul-below s.args.f (length s.args.levels.now) 256 24
      (let h = S.numbered s.args.f (mem-head refl) in omega arith) S.columns-high

  within : s.args.f * length s.args.levels.now + s.args.column < length s.args.table.now
  within = omega (arith, s.requires.sound.inside s.args.f (mem-head refl), s.requires.column)

  small : entry (plan s.args.levels.now s.args.table.now) s.args.f s.args.column < 16
  small =
      let S = s.requires.sound in
      omega (arith, S.below s.args.f (mem-head refl) s.args.column s.requires.column, S.level-high s.args.column s.requires.column)

mul-place : tie.Need-overflow_mul-place
mul-place c = omega (arith, starts c)

add-place : tie.Need-overflow_add-place
add-place c = omega (arith, starts c, c.requires.column, c.requires.sound.columns-high)

shared-slice-read-result : tie.Need-bounds-table-place
shared-slice-read-result c = within c.before

returns : tie.Need-returns
returns c = (refl, small c.before)

pub level_of_spec : {M : Type 1} → statement M
level_of_spec =
    tie.close (tie.spec mul-place add-place shared-slice-read-result returns)
