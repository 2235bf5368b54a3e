-- One more number is written.
use Rattle.exact.proofs.Ground.{arith}
use Rattle.std.proofs.lemmas.Grind.{common_steps}
use Rattle.exact.proofs.Numbers.{from-snoc}
use Rattle.next_sets.proofs.number.Goals as goal

pub loop-i-preserved : goal.loop-i-preserved
loop-i-preserved c = grind (arith, common_steps, from-snoc)
