-- What is left to meet the run, from the groups and links so far, gives what all later runs give.
use Rattle.exact.proofs.Ground.{◌≡◌, ◌+◌, drop, get_or}
use Rattle.rules.specs.Plan.{plan, level}
use Rattle.tell.specs.Given.{after_run}
use Rattle.tell.proofs.Joining.{Walked}
use Rattle.tell.proofs.walk.met_later.Given as goal

abbrev pub invariant-loop-k : goal.invariant-loop-k
invariant-loop-k l =
    let p = plan l.levels l.table in
    let f = get_or l.runs l.at 0 in record {
      walked : Walked (level p l.column) l.state;
      left : after_run p l.column l.others f (drop l.k l.runs) l.state ≡ after_run p l.column l.others f (drop (l.at + 1) l.runs) l.initial.state;
    }
