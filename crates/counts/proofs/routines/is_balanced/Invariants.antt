-- Whether the sets that are left are all even is, at each turn, what decides of all sets; the places held are those of the set at place k.
use Rattle.exact.proofs.Ground.{◌≡◌, length, drop}
use Rattle.exact.specs.Lists.{all}
use Rattle.rules.specs.Plan.{plan, level, entry}
use Rattle.sets.specs.Sets.{choose}
use Rattle.counts.specs.Counts.{even, balanced}
use Rattle.next_sets.proofs.Steps.{At}
use Rattle.counts.proofs.routines.is_balanced.Given as goal

abbrev pub invariant-loop-k : goal.invariant-loop-k
invariant-loop-k l =
    let p = plan l.levels l.table in record {
      at : At 24 (length l.columns) l.t l.k l.places;
      left : all (drop l.k (choose l.t l.columns)) (even (level p) (entry p) l.runs) ≡ balanced (level p) (entry p) l.runs l.columns l.t;
    }
