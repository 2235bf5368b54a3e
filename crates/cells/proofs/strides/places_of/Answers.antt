-- The sum fits 16 bits, since no stride is above the window.
use Rattle.exact.proofs.Ground.{List, [], ℕ, ◌≤◌, ◌<◌, arith, length, get_or, take, get_or-take}
use lib.ListN.{length-take}
use Rattle.rules.specs.Plan.{plan, level, every_column}
use Rattle.cells.specs.Cells.{Strides}
use Rattle.cells.proofs.Radix.{stride_most}
use Rattle.cells.proofs.strides.places_of.Goals as goal

-- what a turn adds
adds : (levels strides : List ℕ) → Strides (plan levels []) strides → (i : ℕ) → i < length levels → get_or (take (length levels) strides) i 0 ≤ 2_560
adds levels strides S i h =
    let p = plan levels [] in
    rw (get_or-take (length levels) strides i 0 h) (omega (arith, S.at i h, stride_most (level p) (every_column p) (level p i)))

-- the strides that are added up are no more than the columns
few : (m : ℕ) (strides : List ℕ) (i : ℕ) → i < length (take m strides) → i < m
few m strides i h = omega (arith, length-take m strides)

pub overflow_add-all : goal.overflow_add-all
overflow_add-all c =
    let levels = c.args.levels.now in let i = c.loop-stride.stride-index in
    let h : i < length levels = few (length levels) c.args.strides.now i (omega arith) in
    omega (arith, adds levels c.args.strides.now c.requires.1 i h, c.requires.0, c.loop-stride.invariant)

pub loop-stride-preserved : goal.loop-stride-preserved
loop-stride-preserved c =
    let levels = c.args.levels.now in let i = c.loop-stride.stride-index in
    let h : i < length levels = few (length levels) c.args.strides.now i (omega arith) in
    let k = c.loop-stride.invariant in
    omega (arith, adds levels c.args.strides.now c.requires.1 i h)
