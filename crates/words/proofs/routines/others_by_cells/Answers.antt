-- The counters are lent at zero, and no row is kept yet.
use Rattle.exact.proofs.Ground.{ℕ, ◌≤◌, arith, length, replicate, length-replicate}
use Rattle.rules.specs.Plan.{plan}
use Rattle.tally.proofs.Turns.{lent-new, lent-take}
use Rattle.row_tally.proofs.Rows.{kept_new}
use Rattle.words.proofs.routines.others_by_cells.Goals as goal

pub others_in-requires : goal.others_in-requires
others_in-requires c = (
  record { at = c.strides_of-strides.ensures.at },
  c.requires,
  lent-take (replicate 1024 0) (replicate 1024 0) (lent-new 1024 (omega arith)) c.places_of-places.result
      (omega (arith, c.places_of-places.ensures, length-replicate {A = ℕ} 1024 0)),
  kept_new (plan c.args.levels.now c.args.table.now) 32 768 (omega arith) (omega arith),
)
