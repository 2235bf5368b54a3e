-- `projection_tables::routines::put_before` meets its contract: from the end down, what stands from k on has moved up by one.
use Rattle.exact.proofs.Ground.{◌≡◌, refl, ◌≤◌, arith, length, length-set}
use Rattle.projection_tables.proofs.Shifts.{moved, moved_none, moved-turn, moved-put}
use Rattle.projection_tables.proofs.routines.put_before.Statement.{statement}
use Rattle.projection_tables.proofs.routines.put_before.Tie as tie

abbrev invariant-loop-k : tie.invariant-loop-k
invariant-loop-k room₀ used at x k₀ room k = (at ≤ k) × (k ≤ used) × (length room ≡ length room₀) × (room ≡ moved room₀ used k)

abbrev decreases-loop-k : tie.decreases-loop-k
decreases-loop-k room₀ used at x k₀ room k = k

loop-holds : tie.Need-loop-k-init invariant-loop-k decreases-loop-k
loop-holds c = (omega arith, omega arith, refl, moved_none 0 c.args.room.now c.args.used (omega arith))

loop-again : tie.Need-loop-k-preserved invariant-loop-k decreases-loop-k
loop-again c =
    let d = c in
    let s = d in (
      omega arith,
      omega arith,
      simp length-set d.loop-k.invariant.2,
      rw d.loop-k.invariant.3 (moved-turn 0 s.args.room.now s.args.used (omega arith) d.loop-k.k (omega arith) (omega arith)),
    )

same_length : tie.Need-shape_of-room invariant-loop-k decreases-loop-k
same_length c = simp length-set c.loop-k.invariant.2

returns : tie.Need-returns invariant-loop-k decreases-loop-k
returns c =
    let d = c in
    let s = d in
    let z : d.loop-k.k ≡ s.args.at = omega arith in
    rw (d.loop-k.invariant.3, z) (moved-put 0 s.args.room.now s.args.used (omega arith) s.args.at s.args.x (omega arith))

pub put_before_spec : {M : Type 1} → statement M
put_before_spec =
    tie.close
    (tie.spec
    invariant-loop-k
    decreases-loop-k
    loop-holds
    (λ c. omega arith)
    (λ c. omega arith)
    (λ c. omega arith)
    (λ c. omega arith)
    (λ c. omega arith)
    (λ c. omega arith)
    (λ c. omega arith)
    loop-again
    (λ c. omega arith)
    (λ c. omega arith)
    same_length
    returns)
