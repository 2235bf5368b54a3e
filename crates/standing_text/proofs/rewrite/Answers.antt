-- What is left of the text is written.
use Rattle.exact.proofs.Ground.{◌∙◌, sym, ap, length}
use Rattle.rules.specs.Refusals.{refusal_in}
use Rattle.rules.proofs.Answered.{left-early}
use Rattle.held.specs.declared.Answered.{Answered}
use Rattle.held.specs.Held.{standing_in}
use Rattle.text.specs.Reader.{filled}
use Rattle.standing_text.specs.StandingText.{text_in, text_refusal, text_answer, rewritten, runs_left}
use Rattle.standing_text.proofs.ReadLeft.{read-left-held, read-left-refuses}
use Rattle.standing_text.proofs.Answers.{stays, answers-within, not_left, left-struck, left-written}
use Rattle.standing_text.proofs.rewrite.Goals as goal

pub returns-in_err-left-clause-answer : goal.returns-in_err-left-clause-answer
returns-in_err-left-clause-answer c =
    let a = c.args in
    left-early c.from_residual.result c.from_residual.ensures.1
    (not_left a.text.now a.lost.now (length a.room.now) (length a.numbers.now) c.read_left-left.ensures (sym c.in_err-left.was))

pub returns-in_err-left-clause-room : goal.returns-in_err-left-clause-room
returns-in_err-left-clause-room c =
    let a = c.args in
    stays (rewritten a.text.now a.lost.now) a.room.now c.in_err-left.field-0.0 c.from_residual.result c.from_residual.ensures.1
    (read-left-refuses a.text.now a.lost.now (sym c.in_err-left.was ∙ ap (λ (x : Answered Unit). x.answer) c.read_left-left.ensures))

pub returns-in_err-left-clause-numbers : goal.returns-in_err-left-clause-numbers
returns-in_err-left-clause-numbers c =
    let a = c.args in
    stays (runs_left a.text.now a.lost.now) a.numbers.now c.in_err-left.field-0.0 c.from_residual.result c.from_residual.ensures.1
    (read-left-refuses a.text.now a.lost.now (sym c.in_err-left.was ∙ ap (λ (x : Answered Unit). x.answer) c.read_left-left.ensures))

pub text_of-requires : goal.text_of-requires
text_of-requires c = rw c.read_left-left.ensures (read-left-held c.args.text.now c.args.lost.now)

pub returns-clause-answer : goal.returns-clause-answer
returns-clause-answer c =
    let a = c.args in
    c.text_of.ensures.answer
    ∙ left-written a.text.now a.lost.now (length a.room.now) (length a.numbers.now) c.read_left-left.ensures (sym c.in_ok-left.was)

pub returns-clause-room : goal.returns-clause-room
returns-clause-room c =
    let a = c.args in
    c.text_of.ensures.room
    ∙ ap (λ (x : Answered Unit). filled (refusal_in c.text_of.result) (text_in x.held) a.room.now)
    (left-struck a.text.now a.lost.now (length a.room.now) (length a.numbers.now) c.read_left-left.ensures (sym c.in_ok-left.was))

pub returns-clause-numbers : goal.returns-clause-numbers
returns-clause-numbers c =
    let a = c.args in
    c.text_of.ensures.numbers
    ∙ ap (λ (x : Answered Unit). filled (refusal_in c.text_of.result) (standing_in x.held) a.numbers.now)
    (left-struck a.text.now a.lost.now (length a.room.now) (length a.numbers.now) c.read_left-left.ensures (sym c.in_ok-left.was))

pub returns-clause-within : goal.returns-clause-within
unfolding text_answer
returns-clause-within c =
    let a = c.args in
    let h = c.read_left-left.result.held in
    answers-within (text_refusal h (length a.room.now) (length a.numbers.now)) (text_in h) (standing_in h) a.room.now a.numbers.now c.text_of.result
    c.text_of.ensures.answer c.text_of.ensures.room c.text_of.ensures.numbers
