-- Each branch is one of the definition, by the fields of the held plan.
use Rattle.exact.proofs.Ground.{arith}
use Rattle.held.specs.Held.{reinstates}
use Rattle.held.proofs.Sizes.{sized}
use Rattle.held.proofs.Branches.{outside-refused, standing-refused, reinstatement-accepted}
use Rattle.held.proofs.calls.check_reinstatement.Goals as goal

pub returns-then-held-run : goal.returns-then-held-run
returns-then-held-run c = rw (c.plain.ensures, outside-refused c.requires (reinstates c.args.run) c.if-held-run.true)

pub bounds-held-run : goal.bounds-held-run
bounds-held-run c = omega (arith, (sized c.requires).runs-high)

pub returns-then-held-run-2 : goal.returns-then-held-run-2
returns-then-held-run-2 c =
    rw (c.plain-then-held-run-2.ensures, standing-refused c.requires c.args.run c.if-held-run.false c.if-held-run-2.true)

pub returns : goal.returns
returns c = rw (reinstatement-accepted c.requires c.args.run c.if-held-run.false c.if-held-run-2.false)
