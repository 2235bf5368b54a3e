-- Where all levels are joined nothing is left to do.
use Rattle.exact.proofs.Ground.{◌≡◌, ◌∙◌, sym, ap, subst, suc, ◌+◌, arith}
use Rattle.rules.specs.Plan.{plan, level}
use Rattle.tell.proofs.Joining.{Walked, joins_from, walked_none, walked-run, joins-all, joins-turn, joins-full}
use Rattle.tell.proofs.walk.evidence.Goals as goal

pub loop-k-init : goal.loop-k-init
loop-k-init c =
    let a = c.args in
    let p = plan a.levels.now a.table.now in
    record { walked = walked_none (level p a.column); left = joins-all p a.column a.others.now a.runs.now c.requires }

pub returns-then-state-last : goal.returns-then-state-last
returns-then-state-last c =
    let a = c.args in
    let p = plan a.levels.now a.table.now in
    let low = c.requires.sound.level-low a.column c.requires.column in
    let last : suc c.loop-k.state.many ≡ level p a.column = omega (arith, c.if-state-last.true, c.from-last.ensures) in
    sym (joins-full p a.column a.others.now a.runs.now c.requires c.loop-k.k c.loop-k.state c.loop-k.invariant.walked last) ∙ c.loop-k.invariant.left

pub loop-k-preserved : goal.loop-k-preserved
loop-k-preserved c =
    let a = c.args in
    let p = plan a.levels.now a.table.now in
    let J = a.others.now in
    let rs = a.runs.now in
    let k = c.loop-k.k in
    let e = c.met_later-after.ensures in
    record {
      walked = subst (Walked (level p a.column)) (sym e) (walked-run p a.column J rs c.requires k c.loop-k.state (omega arith) c.loop-k.invariant.walked);
      left = ap (joins_from p a.column J rs (k + 1)) e ∙ sym (joins-turn p a.column J rs k c.loop-k.state (omega arith)) ∙ c.loop-k.invariant.left;
    }
