use Rattle.exact.proofs.Ground.{[], ◌∷◌, ◌∙◌, ap}
use Rattle.exact.proofs.Bits.{of}
use Rattle.rules.specs.Plan.{plan, columns}
use Rattle.rules.specs.Refusals.{of_plan, bad_size, number_or}
use Rattle.bench.specs.Exports.{set_words_answer}
use Rattle.bench.proofs.Answers.{answer-number}
use Rattle.bench.proofs.bench_set_words.Goals as goal

pub number_or-requires : goal.number_or-requires
unfolding set_words_answer
number_or-requires c =
    let a = c.args in
    let p = plan a.levels.now a.table.now in
    rw c.words_of_sets.ensures (answer-number _ (of_plan p (bad_size (columns p) a.f ∷ [])))

pub returns : goal.returns
returns c = of c.number_or.result c.number_or.type_inv ∙ c.number_or.ensures ∙ ap number_or c.words_of_sets.ensures
