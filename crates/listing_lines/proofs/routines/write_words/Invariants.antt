-- The lines of the first k lengths are put in.
use Rattle.exact.proofs.Ground.{◌*◌}
use Rattle.text.specs.Bytes.{Put}
use Rattle.listing_lines.specs.Parts.{word_lines_of}
use Rattle.listing_lines.proofs.routines.write_words.Given as goal

abbrev pub invariant-loop-k : goal.invariant-loop-k
invariant-loop-k l = Put (word_lines_of l.words l.pairs l.k) (68 * l.k) l.at l.initial.room l.end l.room
