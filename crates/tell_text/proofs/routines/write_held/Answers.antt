-- What is written is the answer of the standing runs.
use Rattle.exact.proofs.Ground.{◌≡◌, ◌∙◌, sym, ap, ap₂, arith}
use Rattle.rules.specs.Plan.{plan}
use Rattle.rules.specs.Refusals.{refusal, answered, refusal_in}
use Rattle.held.specs.Held.{plan_in, standing_in}
use Rattle.held.proofs.Lent.{stops, runs-are, some-run, goes-on}
use Rattle.held.proofs.Sizes.{sized}
use Rattle.text.proofs.Puts.{put_as}
use Rattle.tell.specs.Answer.{tell_checks}
use Rattle.tell_lines.specs.TellLines.{lines_beside}
use Rattle.tell_text.proofs.routines.write_held.Goals as goal

pub write_tell-requires-clause-sound : goal.write_tell-requires-clause-sound
write_tell-requires-clause-sound c =
    let h = c.args.held.now in
    rw (ap₂ plan c.levels.ensures c.table.ensures, c.as_slice.ensures, runs-are h c.in-Ok.ensures)
    ((sized c.requires.held).sound, some-run h c.in-Ok.ensures)

pub returns-in-Err-clause-answer : goal.returns-in-Err-clause-answer
returns-in-Err-clause-answer c =
    let h = c.args.held.now in
    c.write_refused.ensures.answer ∙ stops h c.in-Err.ensures (tell_checks (plan_in h) c.args.column c.args.others.now) (tt {0})

pub returns-clause-answer : goal.returns-clause-answer
returns-clause-answer c =
    let h = c.args.held.now in
    let a = c.args.column in
    let J = c.args.others.now in
    c.write_tell.ensures.answer
    ∙ ap (λ p. answered (refusal (tell_checks p a J)) (tt {0})) (ap₂ plan c.levels.ensures c.table.ensures)
    ∙ sym (goes-on h c.in-Ok.ensures (tell_checks (plan_in h) a J) (tt {0}))

pub returns-clause-bytes : goal.returns-clause-bytes
returns-clause-bytes c =
    let h = c.args.held.now in
    let e = ap₂ plan c.levels.ensures c.table.ensures in
    let d = c.as_slice.ensures ∙ runs-are h c.in-Ok.ensures in
    put_as (ap₂ (λ p rs. lines_beside p rs c.args.column c.args.others.now (refusal_in c.write_tell.result.answer)) e d) (omega arith)
    c.write_tell.ensures.bytes
