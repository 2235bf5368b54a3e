-- The room is long enough for 24 columns of 256 runs.
use Rattle.exact.proofs.Ground.{arith, length}
use Rattle.exact.proofs.Numbers.{mul-below}
use Rattle.rules.specs.Plan.{most_columns, most_runs}
use Rattle.part_sums.proofs.prepared.entries.Goals as goal

pub turned-requires : goal.turned-requires
turned-requires c = (
  omega arith,
  (
    c.requires.sound,
    (
      c.requires.columns.0,
      mul-below (length c.args.columns.now) (length c.args.runs.now) most_columns most_runs c.requires.columns.1 c.requires.sound.few,
    ),
  ),
)
