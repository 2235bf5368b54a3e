use Rattle.exact.proofs.Ground.{◌≡◌, take, get_or}
use Rattle.exact.specs.Lists.{sum}
use Rattle.rules.specs.Plan.{plan}
use Rattle.set_words.specs.Given.{pair_of}
use Rattle.set_words.proofs.routines.earlier_products.Given as goal

abbrev pub invariant-loop-run : goal.invariant-loop-run
invariant-loop-run l = l.total ≡ sum (take l.run-index l.runs) (pair_of (plan l.levels l.table) l.columns (get_or l.runs l.at 0))
