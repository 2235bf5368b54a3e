-- What is answered is made of the measures of all runs.
use Rattle.exact.proofs.Ground.{◌∙◌, sym, ap}
use Rattle.std.specs.Prelude.{Ok}
use Rattle.rules.specs.Plan.{plan, every_run}
use Rattle.rules.specs.Refusals.{refusal, of_plan}
use Rattle.rules.proofs.Answered.{left-early, err-again, ok-is, ok-again}
use Rattle.set_words.proofs.Answers.{good-tabled}
use Rattle.resolution.specs.Charts.{column_checks, figure_of}
use Rattle.resolution.specs.Given.{measures}
use Rattle.resolution.proofs.Rated.{measures-small}
use Rattle.resolution.proofs.Answered.{figure-answered, answered-good}
use Rattle.resolution.proofs.column_figure.Goals as goal

pub returns-in_err-rating : goal.returns-in_err-rating
returns-in_err-rating c =
    let p = plan c.args.levels.now c.args.table.now in
    let rs = every_run p in
    let i = c.args.column in
    left-early _ c.from_residual.ensures.1
    (err-again (refusal (of_plan p (column_checks p rs i))) (measures p rs i) c.in_err-rating.ensures (figure_of (measures p rs i).held)
    ∙ sym (figure-answered p rs (of_plan p) i))

pub figure_of-requires : goal.figure_of-requires
figure_of-requires c =
    let p = plan c.args.levels.now c.args.table.now in
    let rs = every_run p in
    let i = c.args.column in
    let w = c.in_ok-rating.ensures in
    rw (ok-is (refusal (of_plan p (column_checks p rs i))) (measures p rs i) w)
    (measures-small p rs i (good-tabled p (answered-good p (column_checks p rs i) tt (measures p rs i) w)))

pub returns : goal.returns
returns c =
    let p = plan c.args.levels.now c.args.table.now in
    let rs = every_run p in
    let i = c.args.column in
    let r = refusal (of_plan p (column_checks p rs i)) in
    let w = c.in_ok-rating.ensures in
    ap Ok (c.figure_of.ensures ∙ ap (λ x. figure_of x.held) (ok-is r (measures p rs i) w))
    ∙ ok-again r (measures p rs i) w (figure_of (measures p rs i).held)
    ∙ sym (figure-answered p rs (of_plan p) i)
