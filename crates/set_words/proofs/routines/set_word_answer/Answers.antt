-- Past the checks the columns are a projection, of four columns at most.
use Rattle.exact.proofs.Ground.{[], ◌∷◌, refl, length}
use Rattle.rules.specs.Plan.{plan}
use Rattle.rules.specs.Refusals.{refusal, bad_size, bad_set}
use Rattle.rules.proofs.Answered.{ok-accepted}
use Rattle.sets.proofs.Questions.{set-passed}
use Rattle.set_words.proofs.Answers.{set_given}
use Rattle.set_words.proofs.routines.set_word_answer.Goals as goal

pub word_by-requires : goal.word_by-requires
word_by-requires c =
    let a = c.args in
    let p = plan a.levels.now a.table.now in
    let m = length a.levels.now in
    let (few, is_set) = set-passed m a.f a.columns.now refl
    (ok-accepted (refusal (bad_size m a.f ∷ bad_set m a.f a.columns.now ∷ [])) tt c.in_ok-check_set.ensures) in
    (c.requires, (set_given p a.runs.now a.columns.now c.requires is_set, few))
