-- A line is put in where the level names its group, and is among the entries.
use Rattle.exact.proofs.Ground.{Bool, List, ◌&&◌, ℕ, ◌≡◌, ◌∙◌, sym, arith, eqb, eq-eqb, ne_eqb, get_or-take}
use Rattle.exact.specs.Lists.{holds}
use Rattle.text.specs.Bytes.{bytes}
use Rattle.lines.specs.Lines.{line_of}
use Rattle.tell.specs.Evidence.{group_of}
use Rattle.tell_lines.specs.Parts.{members_of}
use Rattle.tell_lines.proofs.Sifted.{line-put, line-passed, and-true, left_false, right-false}
use Rattle.tell_lines.proofs.routines.write_groups.Goals as goal
use Rattle.tell_lines.proofs.routines.write_groups.Goals.{then-from-x+then-holds, else-from-x}
use Rattle.tell_lines.proofs.routines.write_groups.Goals.{else-from-x-via-then-from-x+else-holds, else-from-x-via-else-from-x}

pub loop-x-preserved : goal.loop-x-preserved
loop-x-preserved c =
    let x = c.loop-x.x in
    let gs = c.args.groups.now in
    let test : ℕ → Bool = λ y. eqb (group_of gs y) y && holds y c.args.entries.now in
    let line : ℕ → List ℕ = λ k. line_of (bytes "group") (members_of gs c.args.s k) in
    let e : c.from.result ≡ group_of gs x = c.from.ensures ∙ get_or-take c.args.s gs x 0 (omega arith) in
    elim c.if-from-x.branch [
      | then-from-x+then-holds w ↦ rw (w.room-is, w.end-is)
          (line-put test line 342 x (and-true _ _ (eq-eqb _ _ (sym e ∙ w.if-from-x.true)) (sym w.holds.ensures ∙ w.if-holds.true))
          c.loop-x.invariant w.write_group-end.ensures)
      | else-from-x w ↦ rw (w.room-is, w.end-is)
          (line-passed test line 342 x
          (elim w.else-from-x.branch [
            | else-from-x-via-then-from-x+else-holds v ↦
                right-false _ _ (eq-eqb _ _ (sym e ∙ v.if-from-x.true)) (sym v.holds.ensures ∙ v.if-holds.false)
            | else-from-x-via-else-from-x v ↦ left_false _ _ (ne_eqb _ _ (λ q. v.if-from-x.false (e ∙ q)))
          ]) c.loop-x.invariant)
    ]
