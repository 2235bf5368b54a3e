-- From the last run down, the scores with the runs from k on.
use Rattle.exact.proofs.Ground.{◌≡◌, ◌≤◌, ◌+◌, drop, get_or}
use Rattle.exact.specs.Lists.{sum}
use Rattle.rules.specs.Plan.{plan}
use Rattle.tell.specs.Given.{cell_score}
use Rattle.tell.proofs.scores.later_scores.Given as goal

abbrev pub invariant-loop-k : goal.invariant-loop-k
invariant-loop-k l = record {
  low : l.at + 1 ≤ l.k;
  so_far : l.total ≡ sum (drop l.k l.runs) (cell_score (plan l.levels l.table) l.column l.others (get_or l.runs l.at 0));
}
