-- No word is negative.
use Rattle.exact.proofs.Ground.{◌∙◌, sym, subst, pos, ◌≤ℤ◌}
use Rattle.exact.proofs.Bits.{back}
use Rattle.rules.specs.Plan.{plan}
use Rattle.set_words.proofs.SetWords.{word-nonneg}
use Rattle.set_words.proofs.routines.word_over.Goals as goal

pub over-requires-clause-pos_bound : goal.over-requires-clause-pos_bound
over-requires-clause-pos_bound c =
    subst (λ w. pos 0 ≤ℤ w) (sym (back c.ranges.word ∙ c.requires.word_value))
    (word-nonneg (plan c.args.levels.now c.args.table.now) c.args.runs.now c.args.columns.now c.requires.tabled.0.sound c.requires.tabled.1.0)
