-- q is at most 1000, so that 1000(R + 1) - q is not below zero.
use Rattle.exact.proofs.Ground.{arith}
use Rattle.resolution.proofs.Root.{root_is}
use Rattle.resolution.proofs.answers.generalized_of.Goals as goal

pub overflow_sub-result : goal.overflow_sub-result
overflow_sub-result c = omega (arith, c.root.ensures, (root_is c.args.x.largest c.requires.at_most_one).high)
