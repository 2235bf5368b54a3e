-- The plan that was read is opened and struck; a text that is not read leaves what opening nothing leaves.
use Rattle.exact.proofs.Ground.{◌∙◌, sym, ap, ap₂}
use Rattle.std.specs.Prelude.{Err}
use Rattle.rules.specs.declared.Refusal.{Refusal}
use Rattle.rules.specs.Plan.{plan, most_columns, most_entries}
use Rattle.rules.proofs.Ranges.{unless-refused, unless-accepted}
use Rattle.rules.proofs.Answered.{ok-accepted, err-refused, err-is}
use Rattle.held.specs.declared.Answered.{Answered}
use Rattle.held.specs.Held.{open_answer, empty_held}
use Rattle.held.proofs.Opened.{open-held}
use Rattle.text.specs.Text.{plan_of}
use Rattle.text.specs.Reader.{read_refusal, sizes}
use Rattle.text.proofs.InFront.{in-front}
use Rattle.standing_text.specs.StandingText.{strikes_answer, left_of, read_left}
use Rattle.standing_text.proofs.routines.read_left.Goals as goal

pub struck-requires : goal.struck-requires
struck-requires c = rw c.open-opened.ensures (open-held _)

pub returns-in-Ok : goal.returns-in-Ok
unfolding read_left left_of
returns-in-Ok c =
    let text = c.args.text.now in
    let r = read_refusal text most_columns most_entries in
    let e = c.in-Ok.ensures in
    let F = in-front text e.answer _ _ e.levels e.table in
    c.struck.ensures
    ∙ ap (λ (a : Answered Unit). strikes_answer a.held c.args.lost.now) (c.open-opened.ensures ∙ ap open_answer (ap₂ plan F.levels F.table))
    ∙ sym (unless-accepted r (record { held = empty_held; answer = Err r }) (left_of text c.args.lost.now)
    (ok-accepted r (sizes (plan_of text)) e.answer))

pub returns-in-Err : goal.returns-in-Err
unfolding read_left open_answer
returns-in-Err c =
    let text = c.args.text.now in
    let r = read_refusal text most_columns most_entries in
    let w = c.in-Err.ensures.answer in
    ap (λ (a : Answered Unit). record { held = a.held; answer = Err c.in-Err.refused }) c.open-nothing.ensures
    ∙ ap (λ (q : Refusal). record { held = empty_held; answer = Err q }) (err-is r (sizes (plan_of text)) w)
    ∙ sym (unless-refused r (record { held = empty_held; answer = Err r }) (left_of text c.args.lost.now) (err-refused r (sizes (plan_of text)) w))
