-- The sums are those over the columns passed.
use Rattle.exact.proofs.Ground.{◌≡◌}
use Rattle.rules.specs.Plan.{plan, level, entry}
use Rattle.pairs.specs.Words.{score_at}
use Rattle.pairs.proofs.Columns.{so_far}
use Rattle.pairs.proofs.routines.pair.Given as goal

abbrev pub invariant-loop-i : goal.invariant-loop-i
invariant-loop-i l = let p = plan l.levels l.table in l.sums ≡ so_far (score_at (level p) (entry p) l.f l.g) l.i
