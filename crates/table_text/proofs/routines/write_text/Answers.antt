-- What refuses the text or a strike is printed, or the answer of the runs left.
use Rattle.exact.proofs.Ground.{arith}
use Rattle.standing_text.proofs.ReadLeft.{read-left-held}
use Rattle.standing_text.proofs.Printed.{left-prints, question-prints}
use Rattle.table_text.specs.TableText.{held_refusal, held_answer, table_refusal, table_text}
use Rattle.table_text.proofs.routines.write_text.Goals as goal

pub write_held-requires-clause-held : goal.write_held-requires-clause-held
write_held-requires-clause-held c = rw c.read_left-left.ensures (read-left-held c.args.text.now c.args.lost.now)

pub returns-in-Ok-clause-answer : goal.returns-in-Ok-clause-answer
unfolding table_refusal
returns-in-Ok-clause-answer c =
    let a = c.args in
    (question-prints (held_refusal a.relative a.f) (held_answer a.relative a.f) a.text.now a.lost.now c.read_left-left.ensures
    c.in-Ok.is c.write_held.ensures.answer c.write_held.ensures.bytes).0

pub returns-in-Ok-clause-bytes : goal.returns-in-Ok-clause-bytes
unfolding table_text
returns-in-Ok-clause-bytes c =
    let a = c.args in
    (question-prints (held_refusal a.relative a.f) (held_answer a.relative a.f) a.text.now a.lost.now c.read_left-left.ensures
    c.in-Ok.is c.write_held.ensures.answer c.write_held.ensures.bytes).1

pub returns-in-Err-clause-answer : goal.returns-in-Err-clause-answer
unfolding table_refusal
returns-in-Err-clause-answer c =
    let a = c.args in
    (left-prints (held_refusal a.relative a.f) (held_answer a.relative a.f) a.text.now a.lost.now c.read_left-left.ensures
    {most = 71} c.in-Err.is c.write_refused.ensures.answer (omega arith) c.write_refused.ensures.bytes).0

pub returns-in-Err-clause-bytes : goal.returns-in-Err-clause-bytes
unfolding table_text
returns-in-Err-clause-bytes c =
    let a = c.args in
    (left-prints (held_refusal a.relative a.f) (held_answer a.relative a.f) a.text.now a.lost.now c.read_left-left.ensures
    c.in-Err.is c.write_refused.ensures.answer (omega arith) c.write_refused.ensures.bytes).1
