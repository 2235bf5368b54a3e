-- The rows of the first k places have their pairs. In the inner loop the first e of these rows have their pair with the run at place k too, and the
-- total of that run is over the first e runs.
use Rattle.exact.proofs.Ground.{◌≡◌, take, get_or}
use Rattle.rules.specs.Plan.{plan}
use Rattle.pairs.proofs.Totals.{totals}
use Rattle.pairs.proofs.OfPlan.{of_pair}
use Rattle.words.proofs.RowsByPair.{paired, pairing}
use Rattle.words.proofs.routines.others_by_pairs.Given as goal

abbrev pub invariant-loop-k : goal.invariant-loop-k
invariant-loop-k l = l.rows ≡ paired (plan l.levels l.table) l.runs l.k

abbrev pub invariant-loop-e : goal.invariant-loop-e
invariant-loop-e l =
    let p = plan l.levels l.table in
    (l.total ≡ totals (of_pair p (get_or l.runs l.k 0)) (take l.e l.runs)) × (l.rows ≡ pairing p l.runs l.k l.e)
