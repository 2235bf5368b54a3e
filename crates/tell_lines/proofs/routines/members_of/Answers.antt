-- A level is taken where it is in the group; there are no more of them than levels.
use Rattle.exact.proofs.Ground.{Bool, ℕ, ◌≡◌, ◌∙◌, sym, ap, arith, eqb, eq-eqb, ne_eqb, get_or-take, length}
use Rattle.exact.proofs.Lists.{keep-most}
use Rattle.exact.proofs.Numbers.{length_from}
use Rattle.exact.specs.Lists.{from}
use Rattle.tell.specs.Evidence.{group_of}
use Rattle.tell_lines.proofs.Sifted.{kept_next, kept-passed}
use Rattle.tell_lines.proofs.routines.members_of.Goals as goal
use Rattle.tell_lines.proofs.routines.members_of.Goals.{then-from-k, else-from-k}

pub push-requires : goal.push-requires
push-requires c =
    let test : ℕ → Bool = λ y. eqb (group_of c.args.groups.now y) c.args.k in
    (omega arith, omega (arith, ap length c.loop-x.invariant, keep-most test (from 0 c.loop-x.x), length_from 0 c.loop-x.x, c.requires))

pub loop-x-preserved : goal.loop-x-preserved
loop-x-preserved c =
    let x = c.loop-x.x in
    let gs = c.args.groups.now in
    let test : ℕ → Bool = λ y. eqb (group_of gs y) c.args.k in
    let e : c.from.result ≡ group_of gs x = c.from.ensures ∙ get_or-take c.args.s gs x 0 (omega arith) in
    elim c.if-from-k.branch [
      | then-from-k w ↦ rw (w.members-is, w.push.ensures, c.loop-x.invariant) (sym (kept_next test x (eq-eqb _ _ (sym e ∙ w.if-from-k.true))))
      | else-from-k w ↦ rw (w.members-is, c.loop-x.invariant) (sym (kept-passed test x (ne_eqb _ _ (λ q. w.if-from-k.false (e ∙ q)))))
    ]
