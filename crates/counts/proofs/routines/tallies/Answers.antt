-- The counters hold the counts of the runs passed, and one run more is one more in its combination's counter.
use Rattle.exact.proofs.Ground.{[], ◌∷◌, mem-head, ◌∙◌, refl, ◌<◌, arith, get_or, take, length-take-le, take_all}
use Rattle.exact.proofs.Members.{get_or-mem}
use Rattle.rules.specs.Plan.{plan, level, entry}
use Rattle.plan.specs.Good.{Sound}
use Rattle.words.proofs.OfPlan.{sound-run}
use Rattle.counts.specs.Numbered.{number_of, tallies}
use Rattle.counts.proofs.Turns.{number-one, tally-bound, tallies-next}
use Rattle.counts.proofs.routines.tallies.Goals.{In-loop-run}
use Rattle.counts.proofs.routines.tallies.Goals as goal

-- the run of this turn
module _ (c : In-loop-run) where
  sound : Sound (plan c.args.levels.now c.args.table.now) (get_or c.args.runs.now c.loop-run.run-index 0 ∷ [])
  sound =
      let rs = c.args.runs.now in
      let k = c.loop-run.run-index in
      sound-run (plan c.args.levels.now c.args.table.now) rs c.requires.sound (get_or rs k 0) (get_or-mem rs k 0 (omega arith))

  -- its combination has a counter
  counted : let p = plan c.args.levels.now c.args.table.now in
      number_of (level p) (entry p) (get_or c.args.runs.now c.loop-run.run-index 0) c.args.columns.now < 256
  counted =
      let p = plan c.args.levels.now c.args.table.now in
      let f = get_or c.args.runs.now c.loop-run.run-index 0 in
      omega (
        arith,
        c.requires.columns_bound,
        number-one (level p) (entry p) f c.args.columns.now (λ i m. sound.below f (mem-head refl) i (c.requires.columns.inside i m)),
      )

pub loop-run-init : goal.loop-run-init
unfolding tallies
loop-run-init c = refl

pub combination-number-requires-clause-sound : goal.combination-number-requires-clause-sound
combination-number-requires-clause-sound c = sound (goal.at.combination-number-requires-clause-sound c).In-loop-run

pub bounds-counters-number : goal.bounds-counters-number
bounds-counters-number c = rw c.combination-number.ensures (counted (goal.at.bounds-counters-number c).In-loop-run)

pub bounds-counters-number-in-loop-run : goal.bounds-counters-number-in-loop-run
bounds-counters-number-in-loop-run c = rw c.combination-number.ensures (counted (goal.at.bounds-counters-number-in-loop-run c).In-loop-run)

pub offset_bounds-counters-number : goal.offset_bounds-counters-number
offset_bounds-counters-number c = omega (arith, c.combination-number.ensures, counted (goal.at.offset_bounds-counters-number c).In-loop-run)

pub overflow_add-counters : goal.overflow_add-counters
overflow_add-counters c =
    let p = plan c.args.levels.now c.args.table.now in
    let rs = c.args.runs.now in
    let k = c.loop-run.run-index in
    rw c.loop-run.invariant
    (omega (
      arith,
      c.requires.sound.few,
      length-take-le k rs (omega arith),
      tally-bound p c.args.columns.now (take k rs) c.combination-number.result
          (rw c.combination-number.ensures (counted (goal.at.overflow_add-counters c).In-loop-run)),
    ))

pub loop-run-preserved : goal.loop-run-preserved
loop-run-preserved c =
    let p = plan c.args.levels.now c.args.table.now in
    rw c.loop-run.invariant
    (tallies-next p c.args.columns.now c.args.runs.now c.loop-run.run-index c.combination-number.result (omega arith) c.combination-number.ensures
    (rw c.combination-number.ensures (counted (goal.at.loop-run-preserved c).In-loop-run)))

pub returns : goal.returns
returns c = c.loop-run.invariant ∙ rw (take_all c.loop-run.run-index c.args.runs.now (omega arith)) refl
