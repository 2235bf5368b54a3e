-- The plan's checks come first; the word is that of all its runs.
use Rattle.exact.proofs.Ground.{◌≡◌, ◌∙◌, sym}
use Rattle.rules.specs.Plan.{plan, level, entry, every_run}
use Rattle.rules.specs.Refusals.{refusal, plan_checks}
use Rattle.rules.proofs.Answered.{left-early, ok-is}
use Rattle.plan.proofs.Answers.{begun-good, plan-err, plan-ok}
use Rattle.plan.proofs.Sound.{good-sound}
use Rattle.words.specs.Words.{word_of}
use Rattle.set_words.specs.SetWords.{set_word_checks, set_word_answer}
use Rattle.set_words.proofs.set_word_by.Goals.{After-as_slice}
use Rattle.set_words.proofs.set_word_by.Goals as goal

pub returns-in_err-runs : goal.returns-in_err-runs
unfolding set_word_answer
returns-in_err-runs c =
    let a = c.args in
    let p = plan a.levels.now a.table.now in
    left-early c.from_residual.result c.from_residual.ensures.1
    (plan-err p (set_word_checks p a.f a.columns.now) tt (every_run p) (word_of (level p) (entry p) (every_run p) a.columns.now) c.in_err-runs.ensures)

-- the runs lent are all of the plan's
lent : (c : After-as_slice) → c.as_slice.result.now ≡ every_run (plan c.args.levels.now c.args.table.now)
lent c =
    let p = plan c.args.levels.now c.args.table.now in
    c.as_slice.ensures ∙ ok-is (refusal (plan_checks p)) (every_run p) c.in_ok-runs.ensures

pub set_word_answer-requires : goal.set_word_answer-requires
set_word_answer-requires c =
    let p = plan c.args.levels.now c.args.table.now in
    rw (lent (goal.at.set_word_answer-requires c).After-as_slice) (good-sound p (begun-good p (every_run p) c.in_ok-runs.ensures))

pub returns : goal.returns
unfolding set_word_answer
returns c =
    let a = c.args in
    let p = plan a.levels.now a.table.now in
    rw (c.set_word_answer.ensures, lent (goal.at.returns c).After-as_slice)
    (sym (plan-ok p (set_word_checks p a.f a.columns.now) tt (every_run p) (word_of (level p) (entry p) (every_run p) a.columns.now) c.in_ok-runs.ensures))
