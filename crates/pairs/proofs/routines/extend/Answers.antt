-- A turn makes two new sums of old ones, from above.
use Rattle.exact.proofs.Ground.{List, ◌≡◌, ℕ, ◌≤◌, ◌-◌, ◌+◌, arith, ℤ, nat_abs, w64, to_z, of_z}
use Rattle.exact.proofs.Bits.{back}
use Rattle.rules.specs.Plan.{highest_level}
use Rattle.pairs.specs.Given.{OfColumns, Gains, gained}
use Rattle.pairs.proofs.Rows.{Partway, partway-reads, partway-starts, partway-turn, partway-ends}
use Rattle.pairs.proofs.routines.extend.Goals as goal

-- sums that are the new ones above length k + 1: those at k and k + 1 are small, and with one gain more they are the new ones above k
module _ (x : ℤ) (row : List ℤ) (columns : ℕ) (S : OfColumns columns row) (small : nat_abs x ≤ highest_level) (out : List ℤ) (j k : ℕ) (d : j ≡ k + 1)
    (h : j ≤ columns + 1) (w : Partway x row out j) where
  gains : Gains x k out
  gains = record {
    inside = omega (arith, S.few);
    sum = rw (partway-reads x row S.long out j (k + 1) w (omega (arith, S.few)) (omega arith)) (S.small (k + 1));
    less = rw (partway-reads x row S.long out j k w (omega (arith, S.few)) (omega arith)) (S.small k);
    score = small;
  }

  next : (after : List ℤ) → after ≡ gained x k out → Partway x row after k
  next after e = rw e (partway-turn x row S.long out j k d (omega (arith, S.few)) w)

pub loop-j-init : goal.loop-j-init
loop-j-init c = (omega arith, partway-starts (to_z w64 (of_z w64 c.args.score)) c.args.sums.now c.requires.0.long c.args.columns c.requires.0)

pub gain-requires : goal.gain-requires
gain-requires c =
    let x = to_z w64 (of_z w64 c.args.score) in let j = c.loop-j.j in let i = c.loop-j.invariant in
    gains x c.args.sums.now c.args.columns c.requires.0 (rw (back c.ranges.score) c.requires.1) c.loop-j.sums j (j - 1) (omega arith) i.0 i.1

pub gain-requires-in-loop-j : goal.gain-requires-in-loop-j
gain-requires-in-loop-j c =
    let x = to_z w64 (of_z w64 c.args.score) in let row = c.args.sums.now in let S = c.requires.0 in
    let small : nat_abs x ≤ highest_level = rw (back c.ranges.score) c.requires.1 in let j = c.loop-j.j in let i = c.loop-j.invariant in
    gains x row c.args.columns S small c.gain.new.sums (j - 1) (j - 2) (omega arith) (omega (arith, i.0))
    (next x row c.args.columns S small c.loop-j.sums j (j - 1) (omega arith) i.0 i.1 c.gain.new.sums c.gain.ensures)

pub loop-j-preserved : goal.loop-j-preserved
loop-j-preserved c =
    let x = to_z w64 (of_z w64 c.args.score) in let row = c.args.sums.now in let S = c.requires.0 in
    let small : nat_abs x ≤ highest_level = rw (back c.ranges.score) c.requires.1 in let j = c.loop-j.j in let i = c.loop-j.invariant in (
      omega (arith, i.0),
      next x row c.args.columns S small c.gain.new.sums (j - 1) (j - 2) (omega arith) (omega (arith, i.0))
          (next x row c.args.columns S small c.loop-j.sums j (j - 1) (omega arith) i.0 i.1 c.gain.new.sums c.gain.ensures)
          c.gain-in-loop-j.new.sums c.gain-in-loop-j.ensures,
    )

pub gain-requires-then-j-eq1 : goal.gain-requires-then-j-eq1
gain-requires-then-j-eq1 c =
    let x = to_z w64 (of_z w64 c.args.score) in let i = c.loop-j.invariant in
    gains x c.args.sums.now c.args.columns c.requires.0 (rw (back c.ranges.score) c.requires.1) c.loop-j.sums c.loop-j.j 0 (omega arith) i.0 i.1

pub returns-then-j-eq1 : goal.returns-then-j-eq1
returns-then-j-eq1 c =
    let x = to_z w64 (of_z w64 c.args.score) in let row = c.args.sums.now in let S = c.requires.0 in
    let small : nat_abs x ≤ highest_level = rw (back c.ranges.score) c.requires.1 in let i = c.loop-j.invariant in
    let out = c.gain-then-j-eq1.new.sums in
    let w = next x row c.args.columns S small c.loop-j.sums c.loop-j.j 0 (omega arith) i.0 i.1 out c.gain-then-j-eq1.ensures in
    rw (← back c.ranges.score) (partway-ends x row S.long out 0 (omega arith) w)

pub returns-else-j-eq1 : goal.returns-else-j-eq1
returns-else-j-eq1 c =
    let x = to_z w64 (of_z w64 c.args.score) in
    rw (← back c.ranges.score) (partway-ends x c.args.sums.now c.requires.0.long c.loop-j.sums c.loop-j.j (omega arith) c.loop-j.invariant.1)
