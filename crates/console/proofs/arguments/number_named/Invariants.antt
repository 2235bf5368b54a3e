-- The digits before a place stand for the number so far.
use Rattle.console.proofs.Named.{ReadTo}
use Rattle.console.proofs.arguments.number_named.Given as goal

abbrev pub invariant-loop-byte : goal.invariant-loop-byte
invariant-loop-byte l = ReadTo l.bytes l.byte-index l.number
