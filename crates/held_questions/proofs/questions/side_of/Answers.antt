-- The words held are those of the standing runs.
use Rattle.exact.proofs.Ground.{[], ◌∙◌, sym, ap, length}
use Rattle.std.specs.Prelude.{Ok}
use Rattle.rules.proofs.Answered.{left-early}
use Rattle.held.specs.Held.{standing_in}
use Rattle.held.proofs.Lent.{stops, runs-are, goes-on}
use Rattle.held_questions.specs.Given.{held_side}
use Rattle.held_questions.proofs.questions.side_of.Goals as goal

pub returns-in_err-standing : goal.returns-in_err-standing
unfolding held_side
returns-in_err-standing c =
    let h = c.args.held.now in
    left-early _ c.from_residual.ensures.1
    (stops h c.in_err-standing.ensures [] (record { words = h.words; runs = length (standing_in h); columns = h.columns }))

pub returns : goal.returns
unfolding held_side
returns c =
    let h = c.args.held.now in
    let w = c.in_ok-standing.ensures in
    ap (λ n. Ok (record { words = h.words; runs = n; columns = h.columns })) (c.len-runs.ensures ∙ ap length (runs-are h w))
    ∙ sym (goes-on h w [] (record { words = h.words; runs = length (standing_in h); columns = h.columns }))
