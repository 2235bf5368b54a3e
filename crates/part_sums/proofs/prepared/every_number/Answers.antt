-- One more number is written.
use Rattle.exact.proofs.Ground.{arith}
use Rattle.std.proofs.lemmas.Grind.{common_steps}
use Rattle.exact.proofs.Numbers.{from-snoc}
use Rattle.part_sums.proofs.prepared.every_number.Goals as goal

pub loop-k-preserved : goal.loop-k-preserved
loop-k-preserved c = grind (arith, common_steps, from-snoc)
