-- What is left to do, from the groups and links so far, gives those of all runs.
use Rattle.exact.proofs.Ground.{◌≡◌}
use Rattle.rules.specs.Plan.{plan, level}
use Rattle.tell.specs.Evidence.{evidence}
use Rattle.tell.proofs.Joining.{Walked, joins_from}
use Rattle.tell.proofs.walk.evidence.Given as goal

abbrev pub invariant-loop-k : goal.invariant-loop-k
invariant-loop-k l =
    let p = plan l.levels l.table in record {
      walked : Walked (level p l.column) l.state;
      left : joins_from p l.column l.others l.runs l.k l.state ≡ evidence p l.runs l.column l.others;
    }
