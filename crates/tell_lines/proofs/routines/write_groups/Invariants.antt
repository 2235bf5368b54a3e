-- The lines of the groups named by the first x levels are put in.
use Rattle.exact.proofs.Ground.{◌*◌, ◌&&◌, eqb}
use Rattle.exact.specs.Lists.{from, each, keep, holds}
use Rattle.text.specs.Bytes.{Put, bytes}
use Rattle.lines.specs.Lines.{line_of}
use Rattle.tell.specs.Evidence.{group_of}
use Rattle.tell_lines.specs.Parts.{members_of}
use Rattle.tell_lines.proofs.routines.write_groups.Given as goal

abbrev pub invariant-loop-x : goal.invariant-loop-x
invariant-loop-x l =
    Put (each (keep (λ y. eqb (group_of l.groups y) y && holds y l.entries) (from 0 l.x)) (λ k. line_of (bytes "group") (members_of l.groups l.s k)))
    (l.x * 342) l.at l.initial.room l.end l.room
