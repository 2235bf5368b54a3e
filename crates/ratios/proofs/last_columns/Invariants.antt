-- Before place k the ratios are those of the sets that end with an earlier column.
use Rattle.exact.proofs.Ground.{◌≡◌, take, length}
use Rattle.rules.specs.Plan.{plan}
use Rattle.ratios.specs.Given.{further, ShortRatios}
use Rattle.ratios.proofs.Walks.{ending}
use Rattle.ratios.proofs.last_columns.Given as goal

abbrev pub invariant-loop-k : goal.invariant-loop-k
invariant-loop-k l =
    let p = plan l.levels l.table in
    let P = take l.depth l.initial.with in record {
      long : length l.with ≡ 24;
      taken : take l.depth l.with ≡ P;
      so_far : l.ratios ≡ further p l.runs l.column l.initial.ratios (ending p l.runs P (take l.k l.rest));
      short : ShortRatios l.ratios;
      counters : l.counters ≡ l.initial.counters;
    }
