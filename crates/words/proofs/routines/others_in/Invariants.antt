-- The rows of the first k places stand there, and the counters are cleared.
use Rattle.exact.proofs.Ground.{◌≡◌, length}
use Rattle.rules.specs.Plan.{plan}
use Rattle.tally.specs.Tally.{Lent}
use Rattle.row_tally.specs.Kept.{KeptOn}
use Rattle.words.proofs.RowsByPair.{placed}
use Rattle.words.proofs.routines.others_in.Given as goal

abbrev pub invariant-loop-k : goal.invariant-loop-k
invariant-loop-k l =
    let p = plan l.levels l.table in
    (l.rows ≡ placed p l.runs l.k) × Lent l.counts l.samples × (length l.counts ≡ length l.initial.counts) × KeptOn p l.initial.known l.known l.kept
