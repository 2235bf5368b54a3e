-- The plan's refusal, then that of the size, or the words of all sets added up.
use Rattle.exact.proofs.Ground.{[], ◌∷◌, ◌∙◌, ap, refl}
use Rattle.std.specs.Prelude.{Ok}
use Rattle.exact.proofs.Bits.{of}
use Rattle.rules.specs.Plan.{plan, columns, level, entry, every_column}
use Rattle.rules.specs.Refusals.{bad_size}
use Rattle.rules.proofs.Answered.{left-early, err-again, ok-again, ok-accepted, ok-is}
use Rattle.plan.proofs.Answers.{begun-good, plan-err, plan-ok}
use Rattle.plan.proofs.Sound.{good-sound}
use Rattle.words.specs.Words.{word}
use Rattle.set_words.proofs.Answers.{size-given}
use Rattle.bench.specs.Exports.{set_words_answer}
use Rattle.bench.proofs.words_of_sets.Goals as goal

pub returns-in_err-runs : goal.returns-in_err-runs
unfolding set_words_answer
returns-in_err-runs c =
    let a = c.args in
    let p = plan a.levels.now a.table.now in
    left-early _ c.from_residual.ensures.1 (plan-err p (bad_size (columns p) a.f ∷ []) tt _ _ c.in_err-runs.ensures)

pub returns-in_err-check_size : goal.returns-in_err-check_size
unfolding set_words_answer
returns-in_err-check_size c =
    let a = c.args in
    let p = plan a.levels.now a.table.now in
    left-early _ c.from_residual-in_err-check_size.ensures.1
    (rw (plan-ok p (bad_size (columns p) a.f ∷ []) tt _ _ c.in_ok-runs.ensures) (err-again _ tt c.in_err-check_size.ensures _))

pub words_added-requires : goal.words_added-requires
words_added-requires c =
    let a = c.args in
    let p = plan a.levels.now a.table.now in
    let w = c.in_ok-runs.ensures in
    rw (c.as_slice.ensures, ok-is _ _ w)
    (good-sound p (begun-good p _ w), size-given (columns p) a.f refl (ok-accepted _ tt c.in_ok-check_size.ensures))

pub returns : goal.returns
unfolding set_words_answer
returns c =
    let a = c.args in
    let p = plan a.levels.now a.table.now in
    let w = c.in_ok-runs.ensures in
    rw (plan-ok p (bad_size (columns p) a.f ∷ []) tt _ _ w)
    (ap Ok (of c.words_added.result c.words_added.type_inv ∙ c.words_added.ensures
    ∙ ap (λ rs. word (level p) (entry p) rs (every_column p) a.f) (c.as_slice.ensures ∙ ok-is _ _ w))
    ∙ ok-again _ tt c.in_ok-check_size.ensures _)
