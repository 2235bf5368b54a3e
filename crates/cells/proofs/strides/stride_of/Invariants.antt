-- The stride of level s.
use Rattle.exact.proofs.Ground.{[], ◌≡◌}
use Rattle.rules.specs.Plan.{plan, level, every_column}
use Rattle.cells.specs.Cells.{stride}
use Rattle.cells.proofs.strides.stride_of.Given as goal

abbrev pub invariant-loop-s : goal.invariant-loop-s
invariant-loop-s l = let p = plan l.levels [] in l.t ≡ stride (level p) (every_column p) l.s
