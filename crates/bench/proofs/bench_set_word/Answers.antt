-- Whichever engine is named.
use Rattle.exact.proofs.Ground.{◌∙◌, ap}
use Rattle.exact.proofs.Bits.{of}
use Rattle.rules.specs.Plan.{plan}
use Rattle.rules.specs.Refusals.{of_plan, number_or}
use Rattle.set_words.specs.SetWords.{set_word_checks, set_word_answer}
use Rattle.bench.specs.Exports.{set_word_number}
use Rattle.bench.proofs.Answers.{answer-number}
use Rattle.bench.proofs.bench_set_word.Goals as goal

pub number_or-requires : goal.number_or-requires
unfolding set_word_answer
number_or-requires c =
    let a = c.args in
    let p = plan a.levels.now a.table.now in
    rw c.set_word_by.ensures (answer-number _ (of_plan p (set_word_checks p a.f a.columns.now)))

pub returns : goal.returns
unfolding set_word_number
returns c = of c.number_or.result c.number_or.type_inv ∙ c.number_or.ensures ∙ ap number_or c.set_word_by.ensures
