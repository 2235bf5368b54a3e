-- The total with the counted pairs is that over each pair of different runs from run f on once.
use Rattle.exact.proofs.Ground.{◌≡◌, ◌-◌, ◌*◌, length, drop}
use Rattle.rules.specs.Plan.{plan, runs, every_run, highest_product}
use Rattle.pairs.specs.Given.{Row, once_list}
use Rattle.tally.specs.Tally.{Tally, Few, worth}
use Rattle.tally.proofs.routines.once_by_cells.Given as goal

abbrev pub invariant-loop-f : goal.invariant-loop-f
invariant-loop-f l =
    let p = plan l.levels l.table in
    (worth p l.total l.counts l.samples ≡ once_list p (drop l.f (every_run p)))
    × Tally p l.counts l.samples
    × Few ((runs p - l.f) * 255) l.counts
    × Row ((runs p - l.f) * (255 * highest_product)) l.total
    × (length l.counts ≡ length l.initial.counts)
