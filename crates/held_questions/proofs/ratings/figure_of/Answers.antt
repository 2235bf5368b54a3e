-- The rating of the standing runs holds the column's ratio.
use Rattle.exact.proofs.Ground.{◌∙◌, sym, ap}
use Rattle.std.specs.Prelude.{Ok}
use Rattle.rules.specs.Refusals.{refusal}
use Rattle.rules.proofs.Answered.{left-early, err-again, ok-is, ok-again, ok-accepted}
use Rattle.resolution.specs.declared.routines.Rating.{Rating}
use Rattle.resolution.specs.Charts.{column_checks, figure_of}
use Rattle.resolution.specs.Given.{measures}
use Rattle.resolution.proofs.Rated.{measures-small}
use Rattle.resolution.proofs.Answered.{figure-answered}
use Rattle.held.specs.Held.{plan_in, standing_in, of_standing}
use Rattle.held_questions.proofs.Rating.{asked-stand, held-tabled}
use Rattle.held_questions.proofs.ratings.figure_of.Goals as goal

pub returns-in_err-rate_held : goal.returns-in_err-rate_held
returns-in_err-rate_held c =
    let h = c.args.held.now in
    let p = plan_in h in
    let rs = standing_in h in
    let i = c.args.column in
    let x = measures p rs i in
    left-early _ c.from_residual.ensures.1
    (err-again (refusal (of_standing h (column_checks p rs i))) x c.in_err-rate_held.ensures (figure_of x.held)
    ∙ sym (figure-answered p rs (of_standing h) i))

pub figure_of-requires : goal.figure_of-requires
figure_of-requires c =
    let h = c.args.held.now in
    let p = plan_in h in
    let rs = standing_in h in
    let i = c.args.column in
    let r = refusal (of_standing h (column_checks p rs i)) in
    let w = c.in_ok-rate_held.ensures in
    let l = asked-stand h (column_checks p rs i) (ok-accepted r (measures p rs i) w) in
    rw (ok-is r (measures p rs i) w) (measures-small p rs i (held-tabled c.requires l))

pub returns : goal.returns
returns c =
    let h = c.args.held.now in
    let p = plan_in h in
    let rs = standing_in h in
    let i = c.args.column in
    let x = measures p rs i in
    let r = refusal (of_standing h (column_checks p rs i)) in
    let w = c.in_ok-rate_held.ensures in
    ap Ok (c.figure_of.ensures ∙ ap (λ (y : Rating). figure_of y.held) (ok-is r x w))
    ∙ ok-again r x w (figure_of x.held)
    ∙ sym (figure-answered p rs (of_standing h) i)
