-- The two cases of the code are those of the definition, and a byte less one fits.
use Rattle.exact.proofs.Ground.{◌∙◌, sym, rules}
use Rattle.exact.proofs.Bits.{of}
use Rattle.pairs.proofs.Laws.{score-agrees, score-differs}
use Rattle.pairs.proofs.routines.score.Goals as goal

pub returns-then-a-b : goal.returns-then-a-b
returns-then-a-b c =
    of c.sub.result c.sub.type_inv ∙ c.sub.ensures
    ∙ rw (of c.of_byte.result c.of_byte.type_inv, c.of_byte.ensures) (sym (score-agrees c.args.level c.args.a c.args.b (search rules)))

pub returns-else-a-b : goal.returns-else-a-b
returns-else-a-b c = sym (score-differs c.args.level c.args.a c.args.b (search rules))
