-- The columns from place p on are as high as they can be.
use Rattle.exact.proofs.Ground.{◌≡◌, ◌-◌, ◌+◌, arith, length}
use Rattle.next_sets.proofs.Steps.{raise-first, raise-at, last_step, last-stop, last_none}
use Rattle.next_sets.proofs.last_to_raise.Goals as goal

pub loop-p-init : goal.loop-p-init
loop-p-init c = record { some = omega arith; behind = last_none c.args.m c.args.set.now (length c.args.set.now) (omega arith) }

pub loop-p-preserved : goal.loop-p-preserved
loop-p-preserved c =
    let e : c.loop-p.p ≡ c.loop-p.p - 1 + 1 = omega arith in
    record {
      some = omega arith;
      behind = last_step c.args.m c.args.set.now (c.loop-p.p - 1) (omega arith) (omega arith) c.if-set-p.false (rw e at c.loop-p.invariant.behind);
    }

pub returns-then-set-p : goal.returns-then-set-p
returns-then-set-p c =
    let p = c.loop-p.p - 1 in
    let e : c.loop-p.p ≡ p + 1 = omega arith in (
      omega arith,
      raise-at c.args.m c.args.set.now p (omega arith) (rw e at c.loop-p.invariant.behind)
          (last-stop c.args.m c.args.set.now p (omega arith) (omega arith) c.if-set-p.true),
    )

pub returns : goal.returns
returns c =
    let e : c.loop-p.p ≡ 0 + 1 = omega arith in
    (omega arith, raise-first c.args.m c.args.set.now 0 (omega arith) (omega arith) (rw e at c.loop-p.invariant.behind))
