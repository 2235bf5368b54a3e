-- A refused strike is the answer; after an accepted one the others follow.
use Rattle.exact.proofs.Ground.{◌∙◌, sym, ap, arith, get_or, drop_of_length-le}
use Rattle.held.specs.Held.{strikes}
use Rattle.held.proofs.History.{call-held}
use Rattle.standing_text.specs.StandingText.{strikes_answer}
use Rattle.standing_text.proofs.Struck.{strike-ends, strike-passes}
use Rattle.standing_text.proofs.routines.struck.Goals as goal

pub strike-next-requires : goal.strike-next-requires
strike-next-requires c = c.loop-run.invariant.0

pub returns-then-is_err : goal.returns-then-is_err
returns-then-is_err c =
    let l = c.loop-run in
    strike-ends l.left c.args.lost.now l.run-index (omega arith) c.strike-next.ensures (sym c.if-is_err.ensures.value) ∙ l.invariant.1

pub loop-run-preserved : goal.loop-run-preserved
loop-run-preserved c =
    let l = c.loop-run in
    let lost = c.args.lost.now in (
      rw c.strike-next.ensures (call-held l.invariant.0 (strikes (get_or lost l.run-index 0))),
      strike-passes l.left lost l.run-index (omega arith) c.strike-next.ensures (sym c.if-is_err.ensures.value) ∙ l.invariant.1,
    )

pub returns : goal.returns
returns c =
    let l = c.loop-run in
    let lost = c.args.lost.now in
    ap (strikes_answer l.left) (sym (drop_of_length-le lost {i = l.run-index} (omega arith))) ∙ l.invariant.1
