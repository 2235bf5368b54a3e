-- Each turn of the loop is a round.
use Rattle.exact.proofs.Ground.{◌≡◌, ◌∙◌, ap, add-one, arith}
use Rattle.held.specs.declared.Answered.{Answered}
use Rattle.held.specs.Held.{strikes, reinstates, call_answer}
use Rattle.held.proofs.History.{call-held}
use Rattle.bench.specs.Exports.{round, rounds}
use Rattle.bench.proofs.Answers.{rounds-held}
use Rattle.bench.proofs.rounds.Goals as goal

pub strike-requires : goal.strike-requires
strike-requires c = rw c.loop.invariant (rounds-held c.requires c.loop.counter)

pub reinstate-requires : goal.reinstate-requires
reinstate-requires c = rw (c.strike.ensures, c.loop.invariant) (call-held (rounds-held c.requires c.loop.counter) (strikes 0))

pub loop-preserved : goal.loop-preserved
loop-preserved c =
    let turned : c.reinstate.result.held ≡ round c.loop.turned
    = ap (λ (a : Answered (Unit {0})). a.held) c.reinstate.ensures
    ∙ ap (λ (a : Answered (Unit {0})). (call_answer a.held (reinstates 0)).held) c.strike.ensures in
    rw add-one (turned ∙ ap round c.loop.invariant)

pub returns : goal.returns
returns c =
    let all : c.loop.counter ≡ c.args.times = omega (arith, c.loop.auto.counter-end, c.loop-test.false) in
    c.loop.invariant ∙ ap (rounds c.args.held) all
