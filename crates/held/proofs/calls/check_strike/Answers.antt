-- Each branch is one of the definition, by the fields of the held plan.
use Rattle.exact.proofs.Ground.{arith}
use Rattle.held.specs.Held.{strikes}
use Rattle.held.proofs.Sizes.{sized}
use Rattle.held.proofs.Branches.{outside-refused, struck-refused, strike-asks}
use Rattle.held.proofs.calls.check_strike.Goals as goal

pub returns-then-held-run : goal.returns-then-held-run
returns-then-held-run c = rw (c.plain.ensures, outside-refused c.requires (strikes c.args.run) c.if-held-run.true)

pub bounds-held-run : goal.bounds-held-run
bounds-held-run c = omega (arith, (sized c.requires).runs-high)

pub returns-then-not-held-run : goal.returns-then-not-held-run
returns-then-not-held-run c =
    rw (c.plain-then-not-held-run.ensures, struck-refused c.requires c.args.run c.if-held-run.false c.if-not-held-run.true)

pub returns : goal.returns
returns c =
    rw (
      c.too_few.ensures,
      c.len.ensures,
      c.standing_numbers.ensures,
      strike-asks c.requires c.args.run c.if-held-run.false c.if-not-held-run.false,
    )
