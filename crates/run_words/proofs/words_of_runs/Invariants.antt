-- From the last run down, the total is that over each pair of different runs from place k on once.
use Rattle.exact.proofs.Ground.{◌≡◌, drop}
use Rattle.rules.specs.Plan.{plan}
use Rattle.pairs.specs.Given.{once_list}
use Rattle.run_words.proofs.words_of_runs.Given as goal

abbrev pub invariant-loop-k : goal.invariant-loop-k
invariant-loop-k l = l.total ≡ once_list (plan l.levels l.table) (drop l.k l.runs)
