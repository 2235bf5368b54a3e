-- A denominator below 2 ^ 32 keeps every product small.
use Rattle.exact.proofs.Ground.{◌≡◌, ◌∙◌, sym, ◌*◌, ◌^◌, arith, le-leb, lt-leb}
use Rattle.exact.proofs.Numbers.{mul-below}
use Rattle.resolution.specs.Resolution.{root_of}
use Rattle.resolution.proofs.Searching.{left-found, left-later, left-last}
use Rattle.resolution.proofs.Root.{enough, root-start}
use Rattle.resolution.proofs.numbers.root.Goals as goal

pub loop-q-init : goal.loop-q-init
loop-q-init c = root-start c.args.x

pub overflow_mul-q : goal.overflow_mul-q
overflow_mul-q c = omega (arith, mul-below c.loop-q.q c.loop-q.q 1000 1000 (omega arith) (omega arith))

pub overflow_mul-q-in-loop-q : goal.overflow_mul-q-in-loop-q
overflow_mul-q-in-loop-q c =
    let q = c.loop-q.q in
    omega (arith, mul-below (q * q) c.args.x.den 1_000_000 (2 ^ 32) (mul-below q q 1000 1000 (omega arith) (omega arith)) (omega arith))

pub returns-then-wanted-q : goal.returns-then-wanted-q
returns-then-wanted-q c =
    let x = c.args.x in
    left-found (enough x) 1000 (root_of x) c.loop-q.q c.loop-q.invariant (omega arith) (le-leb _ _ c.if-wanted-q.true)

pub loop-q-preserved : goal.loop-q-preserved
loop-q-preserved c =
    let x = c.args.x in
    left-later (enough x) 1000 (root_of x) c.loop-q.q c.loop-q.invariant (omega arith) (lt-leb _ _ c.if-wanted-q.false)

pub returns : goal.returns
returns c =
    let x = c.args.x in
    let z : c.loop-q.q ≡ 1000 = omega arith in
    sym z ∙ left-last (enough x) 1000 (root_of x) c.loop-q.q c.loop-q.invariant (omega arith)
