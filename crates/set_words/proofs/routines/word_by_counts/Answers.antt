-- The counters that it makes are all zero.
use Rattle.parts.proofs.Squared.{counted_none}
use Rattle.set_words.proofs.routines.word_by_counts.Goals as goal

pub word-requires-clause-counters_value : goal.word-requires-clause-counters_value
word-requires-clause-counters_value c = counted_none
