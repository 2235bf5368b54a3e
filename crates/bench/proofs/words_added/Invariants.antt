use Rattle.exact.proofs.Ground.{[], ◌≡◌, length, w64, to_z}
use Rattle.exact.specs.Lists.{from, sum}
use Rattle.rules.specs.Plan.{plan, level, entry}
use Rattle.sets.specs.Sets.{binom, set_at}
use Rattle.words.specs.Words.{word_of}
use Rattle.parts.specs.Parts.{counted}
use Rattle.bench.proofs.words_added.Given as goal

abbrev pub invariant-loop-k : goal.invariant-loop-k
invariant-loop-k l =
    let p = plan l.levels l.table in
    record {
      sets : l.k-end ≡ binom (length l.levels) l.f;
      counters : l.counters ≡ counted [];
      total : l.total ≡ sum (from 0 l.k) (λ j. word_of (level p) (entry p) l.runs (set_at (length l.levels) l.f j));
    }
