-- The numbers stored and what is left of the line make up the whole line.
use Rattle.std.specs.Prelude.{◌-◌, length}
use Rattle.text.proofs.LineLoop.{SoFar}
use Rattle.text.proofs.reading.read_line.Given as goal

abbrev pub invariant-loop-number : goal.invariant-loop-number
invariant-loop-number l = SoFar l.text l.from l.initial.numbers l.stored l.at l.count l.numbers

abbrev pub decreases-loop-number : goal.decreases-loop-number
decreases-loop-number l = length l.text - l.at
