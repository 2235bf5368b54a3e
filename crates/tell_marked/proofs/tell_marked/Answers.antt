-- The lines are made in a room of the function's own, and copied where they fit.
use Rattle.exact.proofs.Ground.{◌≡◌, ◌∙◌, sym, ap, ap₂, arith, length}
use Rattle.std.specs.Prelude.{Result, Ok, Err}
use Rattle.exact.specs.Lists.{into}
use Rattle.rules.specs.declared.Refusal.{Refusal}
use Rattle.rules.specs.Plan.{plan}
use Rattle.rules.specs.Refusals.{refusal_in}
use Rattle.rules.proofs.Answered.{left-early}
use Rattle.marked.proofs.MarkedRuns.{runs-sound, runs-stand}
use Rattle.text.proofs.Puts.{front-taken}
use Rattle.tell_lines.specs.TellLines.{tell_lines, lines_beside}
use Rattle.tell_marked.proofs.Answers.{runs-stop, question-stops, room-small, room-large}
use Rattle.tell_marked.proofs.tell_marked.Goals as goal

pub returns-in_err-runs-clause-answer : goal.returns-in_err-runs-clause-answer
returns-in_err-runs-clause-answer c =
    let a = c.args in
    let p = plan a.levels.now a.table.now in
    left-early _ c.from_residual.ensures.1 (runs-stop p a.marks.now a.column a.others.now a.room.now c.in_err-runs.ensures).0

pub returns-in_err-runs-clause-room : goal.returns-in_err-runs-clause-room
returns-in_err-runs-clause-room c =
    let a = c.args in
    let p = plan a.levels.now a.table.now in
    (runs-stop p a.marks.now a.column a.others.now a.room.now c.in_err-runs.ensures).1

pub write_tell-written-requires-clause-sound : goal.write_tell-written-requires-clause-sound
write_tell-written-requires-clause-sound c =
    let p = plan c.args.levels.now c.args.table.now in
    let w = c.in_ok-runs.ensures in
    rw c.as_slice.ensures (runs-sound p c.args.marks.now w, runs-stand p c.args.marks.now w)

pub returns-in_err-written-clause-answer : goal.returns-in_err-written-clause-answer
returns-in_err-written-clause-answer c =
    let a = c.args in
    let p = plan a.levels.now a.table.now in
    left-early _ c.from_residual-in_err-written.ensures.1
    (question-stops p a.marks.now a.column a.others.now a.room.now c.in_ok-runs.ensures
    (sym c.in_err-written.was ∙ c.write_tell-written.ensures.answer)).0

pub returns-in_err-written-clause-room : goal.returns-in_err-written-clause-room
returns-in_err-written-clause-room c =
    let a = c.args in
    let p = plan a.levels.now a.table.now in
    (question-stops p a.marks.now a.column a.others.now a.room.now c.in_ok-runs.ensures
    (sym c.in_err-written.was ∙ c.write_tell-written.ensures.answer)).1

-- what was written is the lines of the runs that stand
pub returns-then-places-bytes-clause-answer : goal.returns-then-places-bytes-clause-answer
returns-then-places-bytes-clause-answer c =
    let a = c.args in
    let p = plan a.levels.now a.table.now in
    let J = a.others.now in
    let t = c.write_tell-written in
    let S = ap₂ (λ rs (x : Result Unit Refusal). lines_beside p rs a.column J (refusal_in x)) c.as_slice.ensures c.in_ok-written.was in
    let k : t.result.bytes ≡ length (tell_lines p c.in_ok-runs.runs a.column J) = omega (arith, t.ensures.bytes.behind, ap length S) in
    ap Err c.plain.ensures
    ∙ (room-small p a.marks.now a.column J a.room.now c.in_ok-runs.ensures (sym c.in_ok-written.was ∙ t.ensures.answer)
    (omega (arith, k, c.if-places-bytes.true))).0

pub returns-then-places-bytes-clause-room : goal.returns-then-places-bytes-clause-room
returns-then-places-bytes-clause-room c =
    let a = c.args in
    let p = plan a.levels.now a.table.now in
    let J = a.others.now in
    let t = c.write_tell-written in
    let S = ap₂ (λ rs (x : Result Unit Refusal). lines_beside p rs a.column J (refusal_in x)) c.as_slice.ensures c.in_ok-written.was in
    let k : t.result.bytes ≡ length (tell_lines p c.in_ok-runs.runs a.column J) = omega (arith, t.ensures.bytes.behind, ap length S) in
    (room-small p a.marks.now a.column J a.room.now c.in_ok-runs.ensures (sym c.in_ok-written.was ∙ t.ensures.answer)
    (omega (arith, k, c.if-places-bytes.true))).1

pub returns-clause-answer : goal.returns-clause-answer
returns-clause-answer c =
    let a = c.args in
    let p = plan a.levels.now a.table.now in
    let J = a.others.now in
    let t = c.write_tell-written in
    let S = ap₂ (λ rs (x : Result Unit Refusal). lines_beside p rs a.column J (refusal_in x)) c.as_slice.ensures c.in_ok-written.was in
    let k : t.result.bytes ≡ length (tell_lines p c.in_ok-runs.runs a.column J) = omega (arith, t.ensures.bytes.behind, ap length S) in
    ap Ok k
    ∙ (room-large p a.marks.now a.column J a.room.now c.in_ok-runs.ensures (sym c.in_ok-written.was ∙ t.ensures.answer)
    (omega (arith, k, c.if-places-bytes.false))).0

pub returns-clause-room : goal.returns-clause-room
returns-clause-room c =
    let a = c.args in
    let p = plan a.levels.now a.table.now in
    let J = a.others.now in
    let t = c.write_tell-written in
    let S = ap₂ (λ rs (x : Result Unit Refusal). lines_beside p rs a.column J (refusal_in x)) c.as_slice.ensures c.in_ok-written.was in
    let k : t.result.bytes ≡ length (tell_lines p c.in_ok-runs.runs a.column J) = omega (arith, t.ensures.bytes.behind, ap length S) in
    c.copy.ensures ∙ ap (λ xs. into xs a.room.now) (front-taken t.ensures.bytes ∙ S)
    ∙ (room-large p a.marks.now a.column J a.room.now c.in_ok-runs.ensures (sym c.in_ok-written.was ∙ t.ensures.answer)
    (omega (arith, k, c.if-places-bytes.false))).1
