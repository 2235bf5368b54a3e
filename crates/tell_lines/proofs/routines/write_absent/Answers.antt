-- A line is put in where the level is not among the entries.
use Rattle.exact.proofs.Ground.{Bool, not, List, ℕ, ◌∙◌, sym, ap, ◌∷◌, []}
use Rattle.exact.specs.Lists.{holds}
use Rattle.text.specs.Bytes.{bytes}
use Rattle.lines.specs.Lines.{line_of}
use Rattle.tell_lines.proofs.Sifted.{line-put, line-passed}
use Rattle.tell_lines.proofs.routines.write_absent.Goals as goal
use Rattle.tell_lines.proofs.routines.write_absent.Goals.{then-not-holds, else-not-holds}

pub loop-x-preserved : goal.loop-x-preserved
loop-x-preserved c =
    let x = c.loop-x.x in
    let entries = c.args.entries.now in
    let test : ℕ → Bool = λ y. not (holds y entries) in
    let line : ℕ → List ℕ = λ y. line_of (bytes "absent") (y ∷ []) in
    let asks = ap not (sym c.holds.ensures) in
    elim c.if-not-holds.branch [
      | then-not-holds w ↦ rw (w.room-is, w.end-is)
          (line-put test line 28 x (asks ∙ ap not w.if-not-holds.true) c.loop-x.invariant w.write_line-end.ensures)
      | else-not-holds w ↦ rw (w.room-is, w.end-is) (line-passed test line 28 x (asks ∙ ap not w.if-not-holds.false) c.loop-x.invariant)
    ]
