-- The bytes before the place are passed.
use Rattle.console.proofs.LinesEnd.{Passed}
use Rattle.console.proofs.lines.lines_end.Given as goal

abbrev pub invariant-loop-at : goal.invariant-loop-at
invariant-loop-at l = Passed l.text l.count l.left l.at
