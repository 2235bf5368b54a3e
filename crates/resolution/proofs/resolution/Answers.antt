-- The words are those of all runs of the plan.
use Rattle.exact.proofs.Ground.{◌∙◌, sym}
use Rattle.rules.specs.Plan.{plan, every_run}
use Rattle.rules.specs.Refusals.{refusal, plan_checks}
use Rattle.rules.proofs.Answered.{left-early, ok-is}
use Rattle.plan.proofs.Answers.{begun-good, plan-err, plan-ok}
use Rattle.set_words.proofs.Answers.{good-tabled}
use Rattle.words.specs.Answers.{words_answer, word_list}
use Rattle.resolution.specs.Resolution.{resolution_in, resolution_checks, resolution_answer}
use Rattle.resolution.proofs.Answered.{resolution-answered}
use Rattle.resolution.proofs.resolution.Goals as goal

pub returns-in_err-words : goal.returns-in_err-words
unfolding words_answer resolution_answer
returns-in_err-words c =
    let p = plan c.args.levels.now c.args.table.now in
    left-early _ c.from_residual.ensures.1
    (plan-err p (resolution_checks p (every_run p)) tt (word_list p (every_run p)) (resolution_in p (every_run p)) c.in_err-words.ensures)

pub resolution_answer-requires : goal.resolution_answer-requires
unfolding words_answer
resolution_answer-requires c =
    let p = plan c.args.levels.now c.args.table.now in
    (begun-good p (word_list p (every_run p)) c.in_ok-words.ensures).columns-high

pub returns : goal.returns
unfolding words_answer resolution_answer
returns c =
    let p = plan c.args.levels.now c.args.table.now in
    let rs = every_run p in
    let w = c.in_ok-words.ensures in
    c.resolution_answer.ensures
    ∙ resolution-answered p rs _ (record {
      tabled = good-tabled p (begun-good p (word_list p rs) w);
      of-runs = ok-is (refusal (plan_checks p)) (word_list p rs) w;
    })
    ∙ sym (plan-ok p (resolution_checks p rs) tt (word_list p rs) (resolution_in p rs) w)
