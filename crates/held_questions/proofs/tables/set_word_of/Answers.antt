-- The standing runs are those of a held plan.
use Rattle.exact.proofs.Ground.{sym}
use Rattle.rules.specs.Plan.{level, entry}
use Rattle.rules.proofs.Answered.{left-early}
use Rattle.words.specs.Words.{word_of}
use Rattle.set_words.specs.SetWords.{set_word_checks, set_word_answer}
use Rattle.held.specs.Held.{plan_in, standing_in}
use Rattle.held.proofs.Sizes.{sized}
use Rattle.held.proofs.Lent.{stops, runs-are, goes-on}
use Rattle.held_questions.proofs.tables.set_word_of.Goals as goal

pub returns-in_err-runs : goal.returns-in_err-runs
unfolding set_word_answer
returns-in_err-runs c =
    let h = c.args.held.now in
    let p = plan_in h in
    let rs = standing_in h in
    left-early _ c.from_residual.ensures.1 (stops h c.in_err-runs.ensures (set_word_checks p c.args.f c.args.set.now) (word_of (level p) (entry p) rs c.args.set.now))

pub set_word_answer-requires : goal.set_word_answer-requires
set_word_answer-requires c =
    let h = c.args.held.now in
    rw (c.levels.ensures, c.table.ensures, c.as_slice.ensures, runs-are h c.in_ok-runs.ensures) ((sized c.requires).sound)

pub returns : goal.returns
unfolding set_word_answer
returns c =
    let h = c.args.held.now in
    let p = plan_in h in
    let rs = standing_in h in
    let w = c.in_ok-runs.ensures in
    rw (c.set_word_answer.ensures, c.levels.ensures, c.table.ensures, c.as_slice.ensures, runs-are h w) (sym (goes-on h w (set_word_checks p c.args.f c.args.set.now) (word_of (level p) (entry p) rs c.args.set.now)))
