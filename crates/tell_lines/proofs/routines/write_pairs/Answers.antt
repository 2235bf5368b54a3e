-- Both runs of a pair lie in the plan.
use Rattle.exact.proofs.Ground.{[], ◌∷◌, ap₂, ◌<◌, arith, get_or, get_or-take}
use Rattle.rules.specs.Plan.{plan}
use Rattle.text.specs.Bytes.{bytes}
use Rattle.text.proofs.Puts.{put_as}
use Rattle.lines.specs.Lines.{line_of}
use Rattle.lines.proofs.Lines.{each-put}
use Rattle.tell_lines.specs.Parts.{pair_line_at}
use Rattle.tell_lines.proofs.routines.write_pairs.Goals as goal

pub entry_at-x-requires : goal.entry_at-x-requires
entry_at-x-requires c =
    let k = c.loop-k.k in
    let h : k < c.args.joins.many = omega arith in
    rw (get_or-take c.args.joins.many c.args.joins.left k 0 h) (c.requires.0.left-run k h)

pub entry_at-y-requires : goal.entry_at-y-requires
entry_at-y-requires c = c.requires.0.right-run c.loop-k.k (omega arith)

pub loop-k-preserved : goal.loop-k-preserved
loop-k-preserved c =
    let k = c.loop-k.k in
    let p = plan c.args.levels.now c.args.table.now in
    let j = c.args.joins in
    let h : k < j.many = omega arith in
    let f = get_or-take j.many j.left k 0 h in
    each-put (pair_line_at p c.args.column j.left j.right) 89 k c.loop-k.invariant
    (put_as (ap₂ (λ f e. line_of (bytes "pair") (f ∷ get_or j.right k 0 ∷ e)) f (ap₂ (λ x y. x ∷ y ∷ []) (rw (← f) c.entry_at-x.ensures) c.entry_at-y.ensures))
    (omega arith) c.write_line-end.ensures)
