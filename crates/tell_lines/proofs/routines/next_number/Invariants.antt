-- The least of the numbers so far.
use Rattle.tell_lines.proofs.Least.{LeastTo}
use Rattle.tell_lines.proofs.routines.next_number.Given as goal

abbrev pub invariant-loop-number : goal.invariant-loop-number
invariant-loop-number l = LeastTo l.numbers l.low l.end l.number-index l.next
