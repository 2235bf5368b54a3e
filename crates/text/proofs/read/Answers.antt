-- A text of at most 32,768 bytes has at most 16,384 numbers; the lines, then the plan and the rooms, are checked in the order of the refusals.
use Rattle.exact.proofs.Ground.{◌∙◌, length}
use Rattle.rules.proofs.Answered.{left-early}
use Rattle.text.specs.Text.{plan_of}
use Rattle.text.specs.Reading.{counted}
use Rattle.text.proofs.TextLoop.{parts}
use Rattle.text.proofs.Answers.{long-text, unread-text, read_text}
use Rattle.text.proofs.read.Goals as goal

pub returns-then-text-gt-LONGEST_TEXT-clause-answer : goal.returns-then-text-gt-LONGEST_TEXT-clause-answer
returns-then-text-gt-LONGEST_TEXT-clause-answer c =
    let a = c.args in
    rw (c.plain.ensures, long-text a.text.now (length a.levels.now) (length a.table.now) c.if-text-gt-LONGEST_TEXT.true)

pub returns-in_err-lines-clause-answer : goal.returns-in_err-lines-clause-answer
returns-in_err-lines-clause-answer c =
    let a = c.args in
    left-early c.from_residual.result c.from_residual.ensures.1
    (unread-text a.text.now a.levels.now a.table.now c.if-text-gt-LONGEST_TEXT.false (counted (plan_of a.text.now)) c.in_err-lines.ensures.answer)

pub returns-clause-answer : goal.returns-clause-answer
returns-clause-answer c =
    let a = c.args in
    let P = parts c.in_ok-lines.ensures in
    c.fill.ensures.answer
    ∙ read_text a.text.now a.levels.now a.table.now c.if-text-gt-LONGEST_TEXT.false (counted (plan_of a.text.now)) c.in_ok-lines.ensures.answer
    c.split_at.result.0.now c.split_at.result.1.now (c.split_at.ensures.front ∙ P.levels) (c.split_at.ensures.back ∙ P.table)
