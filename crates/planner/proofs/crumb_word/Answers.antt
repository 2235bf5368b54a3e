-- The library's answer for the length.
use Rattle.exact.proofs.Ground.{◌∙◌, ap}
use Rattle.exact.proofs.Bits.{of}
use Rattle.rules.specs.Plan.{plan}
use Rattle.rules.specs.Refusals.{number_or}
use Rattle.words.specs.Answers.{planner_word}
use Rattle.planner.specs.Calls.{of-plan, word, asked}
use Rattle.planner.proofs.Calls.{call-number}
use Rattle.planner.proofs.crumb_word.Goals as goal

pub number_or-requires : goal.number_or-requires
number_or-requires c =
    let a = c.args in rw c.word.ensures (call-number (asked (of-plan (plan a.levels.now a.table.now)) (word a.length)))

pub returns : goal.returns
unfolding planner_word
returns c = of c.number_or.result c.number_or.type_inv ∙ c.number_or.ensures ∙ ap number_or c.word.ensures
