-- From the last run down, the scores of the runs from k on.
use Rattle.exact.proofs.Ground.{◌≡◌}
use Rattle.rules.specs.Plan.{plan}
use Rattle.tell.proofs.Mixed.{scores_from}
use Rattle.tell.proofs.scores.cell_scores.Given as goal

abbrev pub invariant-loop-k : goal.invariant-loop-k
invariant-loop-k l = l.total ≡ scores_from (plan l.levels l.table) l.runs l.column l.others l.k
