-- The columns passed have their strides.
use Rattle.exact.proofs.Ground.{[], ◌≡◌, replicate}
use Rattle.exact.proofs.Rooms.{begun}
use Rattle.rules.specs.Plan.{plan}
use Rattle.cells.specs.Cells.{stride_of}
use Rattle.cells.proofs.strides.strides_of.Given as goal

abbrev pub invariant-loop-i : goal.invariant-loop-i
invariant-loop-i l = l.strides ≡ begun (stride_of (plan l.levels [])) (replicate 24 0) l.i
