-- `words::diagonal` meets its contract: what is refused is what the levels' checks refuse.
use Rattle.exact.proofs.Ground.{[], ◌∙◌, ap, refl}
use Rattle.std.specs.Prelude.{Ok}
use Rattle.rules.specs.Plan.{plan}
use Rattle.rules.specs.Refusals.{refusal, level_checks}
use Rattle.rules.proofs.Answered.{err-again, ok-again, ok-accepted, left-early}
use Rattle.words.specs.Answers.{diagonal_list, diagonal_answer}
use Rattle.words.proofs.Answered.{levels_sound}
use Rattle.words.proofs.diagonal.Goals as goal

pub returns-in_err-check_levels : goal.returns-in_err-check_levels
unfolding diagonal_answer
returns-in_err-check_levels c =
    let p = plan c.args.levels.now [] in
    left-early c.from_residual.result c.from_residual.ensures.1 (err-again (refusal (level_checks p)) tt c.in_err-check_levels.ensures (diagonal_list p))

pub diagonal-requires : goal.diagonal-requires
diagonal-requires c =
    let levels = c.args.levels.now in
    levels_sound levels refl (ok-accepted (refusal (level_checks (plan levels []))) tt c.in_ok-check_levels.ensures)

pub returns : goal.returns
unfolding diagonal_answer
returns c =
    let p = plan c.args.levels.now [] in
    ap Ok c.diagonal.ensures ∙ ok-again (refusal (level_checks p)) tt c.in_ok-check_levels.ensures (diagonal_list p)
