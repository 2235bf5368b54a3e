use Rattle.exact.proofs.Ground.{◌≡◌, take}
use Rattle.rules.specs.Plan.{plan, level, entry}
use Rattle.words.specs.Words.{word_of}
use Rattle.set_words.proofs.routines.word_by_pairs.Given as goal

abbrev pub invariant-loop-k : goal.invariant-loop-k
invariant-loop-k l = let p = plan l.levels l.table in l.word ≡ word_of (level p) (entry p) (take l.k l.runs) l.columns
