-- Where all levels are joined the later runs change nothing.
use Rattle.exact.proofs.Ground.{◌≡◌, ◌∙◌, sym, ap, subst, suc, ◌+◌, arith, get_or, drop}
use Rattle.rules.specs.Plan.{plan, level}
use Rattle.tell.specs.Given.{after_run}
use Rattle.tell.proofs.Turns.{asked-run, asked-two}
use Rattle.tell.proofs.Joining.{Walked, after_turn, turn-links, turn-passes, walked-two, run-next, run-full}
use Rattle.tell.proofs.walk.met_later.Goals.{then-joins_groups, else-joins_groups}
use Rattle.tell.proofs.walk.met_later.Goals as goal

pub level_of-requires : goal.level_of-requires
level_of-requires c =
    let a = c.args in asked-run (plan a.levels.now a.table.now) a.runs.now a.column a.others.now c.requires.asked.0 a.at c.requires.asked.1

pub returns-then-state-last : goal.returns-then-state-last
returns-then-state-last c =
    let a = c.args in
    sym (run-full (plan a.levels.now a.table.now) a.column a.others.now a.runs.now c.requires.asked.0 a.at c.loop-k.k c.loop-k.state c.requires.asked.1
    c.loop-k.invariant.walked (ap suc c.if-state-last.true ∙ c.requires.last_value)) ∙ c.loop-k.invariant.left

pub joins_groups-requires-clause-asked : goal.joins_groups-requires-clause-asked
joins_groups-requires-clause-asked c =
    let a = c.args in
    asked-two (plan a.levels.now a.table.now) a.runs.now a.column a.others.now c.requires.asked.0 a.at c.loop-k.k c.requires.asked.1 (omega arith)

pub level_of-requires-then-joins_groups : goal.level_of-requires-then-joins_groups
level_of-requires-then-joins_groups c =
    let a = c.args in
    asked-run (plan a.levels.now a.table.now) a.runs.now a.column a.others.now c.requires.asked.0 c.loop-k.k (omega arith)

pub loop-k-preserved : goal.loop-k-preserved
loop-k-preserved c =
    let a = c.args in
    let p = plan a.levels.now a.table.now in
    let J = a.others.now in
    let rs = a.runs.now in
    let k = c.loop-k.k in
    let f = get_or rs a.at 0 in
    let g = get_or rs k 0 in
    let j = c.loop-k.state in
    let turn : c.if-joins_groups.state ≡ after_turn p a.column J f g j =
    elim c.if-joins_groups.branch [
      | then-joins_groups w ↦ w.state-is ∙ w.met-after.ensures
          ∙ turn-links p a.column J f g j c.from-x.result w.from-y.result (c.from-x.ensures ∙ c.level_of.ensures.is)
          (w.from-y.ensures ∙ w.level_of-then-joins_groups.ensures.is) (sym c.joins_groups.ensures ∙ w.if-joins_groups.true)
      | else-joins_groups w ↦ w.state-is ∙ turn-passes p a.column J f g j (sym c.joins_groups.ensures ∙ w.if-joins_groups.false)
    ] in
    record {
      walked =
          subst (Walked (level p a.column)) (sym turn)
          (walked-two p a.column J rs c.requires.asked.0 a.at k j c.requires.asked.1 (omega arith) c.loop-k.invariant.walked);
      left = ap (after_run p a.column J f (drop (k + 1) rs)) turn ∙ sym (run-next p a.column J f rs k j (omega arith)) ∙ c.loop-k.invariant.left;
    }
