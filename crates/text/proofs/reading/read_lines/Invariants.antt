-- The lines stored and what is left of the text make up the whole text.
use Rattle.std.specs.Prelude.{◌-◌, length}
use Rattle.text.proofs.TextLoop.{LinesSoFar}
use Rattle.text.proofs.reading.read_lines.Given as goal

abbrev pub invariant-loop-at : goal.invariant-loop-at
invariant-loop-at l = LinesSoFar l.text l.columns l.at l.line l.count l.numbers

abbrev pub decreases-loop-at : goal.decreases-loop-at
decreases-loop-at l = length l.text - l.at
