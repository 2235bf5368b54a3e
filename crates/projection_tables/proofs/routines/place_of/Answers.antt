-- A line that is smaller: so are all before it.
use Rattle.exact.proofs.Ground.{◌∙◌, sym, ◌-◌, ◌+◌, ◌/◌, arith, rules}
use denote.Enum.Bare.{same_true}
use Rattle.exact.specs.contracts.fractions.Verdict.{the_type}
use Rattle.projection_tables.specs.Given.{not_smaller}
use Rattle.projection_tables.proofs.Halves.{halved-found, halved-up}
use Rattle.projection_tables.proofs.routines.place_of.Goals as goal

pub loop-low-preserved-then-eq : goal.loop-low-preserved-then-eq
loop-low-preserved-then-eq c =
    let a = c.args in
    let l = c.loop-low in
    let middle = l.low + (l.high - l.low) / 2 in
    halved-up a.nums.now a.dens.now a.used a.value c.requires.0 c.requires.1 l.low l.high middle l.invariant (omega arith) (omega arith)
    (sym c.smaller_fraction.ensures ∙ same_true the_type (search rules) _ _ (sym c.eq.ensures ∙ c.if-eq.true))

pub returns : goal.returns
returns c =
    let a = c.args in
    let l = c.loop-low in
    halved-found (not_smaller a.nums.now a.dens.now a.value) a.used l.low l.high (omega (arith, l.invariant.ordered)) l.invariant
