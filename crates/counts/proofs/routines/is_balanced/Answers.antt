-- Whether the sets that are left are all even is, at each turn, what decides of all sets.
use Rattle.exact.proofs.Ground.{◌&&◌, [], ◌≡◌, ◌∙◌, sym, ap, refl, ◌≤◌, ◌+◌, arith, length, take, drop, replicate}
use Rattle.exact.specs.Lists.{all}
use Rattle.rules.specs.Plan.{plan, level, entry}
use Rattle.sets.specs.Sets.{choose}
use Rattle.sets.proofs.Pascal.{length-choose}
use Rattle.sets.proofs.Among.{chosen}
use Rattle.counts.specs.Counts.{even, balanced}
use Rattle.counts.proofs.Turns.{chosen-columns, all-next, all-passed}
use Rattle.next_sets.proofs.Steps.{walk_start, walk-set, walk-next, places-inside, front-chosen}
use Rattle.counts.proofs.routines.is_balanced.Goals.{In-loop-k, After-among, After-is_even}
use Rattle.counts.proofs.routines.is_balanced.Goals as goal

pub loop-k-init : goal.loop-k-init
unfolding balanced
loop-k-init c = record {
  at = rw c.first_set.ensures (walk_start 24 (length c.args.columns.now) c.args.t (omega arith) (replicate 24 0) (omega arith) refl);
  left = refl;
}

-- the place of this turn is one of the sets'
module _ (c : In-loop-k) where
  few : c.args.t ≤ 24
  few = omega (arith, c.requires.columns_len_bound)

pub among-requires-clause-by_index : goal.among-requires-clause-by_index
among-requires-clause-by_index c =
    places-inside c.args.columns.now c.args.t c.loop-k.k (omega arith) 24 c.loop-k.places (few (goal.at.among-requires-clause-by_index c).In-loop-k)
    c.loop-k.invariant.at

-- the set that is written is the set at place k
front : (c : After-among) → take c.args.t c.among.new.set ≡ chosen c.args.columns.now c.args.t c.loop-k.k
front c =
    ap (take c.args.t) c.among.ensures
    ∙ front-chosen c.args.columns.now c.args.t c.loop-k.k (omega arith) 24 c.loop-k.places (omega arith) c.loop-k.invariant.at c.loop-k.set

pub is_even-requires-clause-columns : goal.is_even-requires-clause-columns
is_even-requires-clause-columns c =
    rw (front (goal.at.is_even-requires-clause-columns c).After-among)
    (chosen-columns c.args.columns.now c.args.t c.loop-k.k (omega arith) c.requires.columns)

-- what it answers is one step of the walk
step : (c : After-is_even) → take c.args.t c.among.new.set ≡ chosen c.args.columns.now c.args.t c.loop-k.k →
    let a = c.args in let p = plan a.levels.now a.table.now in
    balanced (level p) (entry p) a.runs.now a.columns.now a.t ≡
    (c.is_even.result && all (drop (c.loop-k.k + 1) (choose a.t a.columns.now)) (even (level p) (entry p) a.runs.now))
step c e =
    let a = c.args in
    let p = plan a.levels.now a.table.now in
    sym c.loop-k.invariant.left
    ∙ all-next (even (level p) (entry p) a.runs.now) (choose a.t a.columns.now) c.loop-k.k [] (rw (length-choose a.t a.columns.now) (omega arith))
    ∙ ap (λ b. b && all (drop (c.loop-k.k + 1) (choose a.t a.columns.now)) (even (level p) (entry p) a.runs.now))
    (sym (rw e at c.is_even.ensures))

pub returns-then-not-is_even : goal.returns-then-not-is_even
returns-then-not-is_even c =
    let d = goal.at.returns-then-not-is_even c in
    sym (step d.After-is_even (front d.After-among) ∙ rw c.if-not-is_even.true refl)

pub next_set-requires : goal.next_set-requires
next_set-requires c =
    let within = few (goal.at.next_set-requires c).In-loop-k in (
      omega (arith, c.loop-k.invariant.at.wide),
      omega arith,
      omega arith,
      walk-set 24 (length c.args.columns.now) c.args.t within c.loop-k.k c.loop-k.places c.loop-k.invariant.at (omega arith),
    )

pub loop-k-preserved : goal.loop-k-preserved
loop-k-preserved c =
    let d = goal.at.loop-k-preserved c in
    record {
      at = rw c.next_set.ensures
          (walk-next 24 (length c.args.columns.now) c.args.t (few d.In-loop-k) c.loop-k.k c.loop-k.places c.loop-k.invariant.at (omega arith));
      left = sym (rw c.if-not-is_even.false at (step d.After-is_even (front d.After-among)));
    }

pub returns : goal.returns
returns c =
    let a = c.args in
    let p = plan a.levels.now a.table.now in
    sym (sym c.loop-k.invariant.left
    ∙ all-passed (even (level p) (entry p) a.runs.now) (choose a.t a.columns.now) c.loop-k.k (rw (length-choose a.t a.columns.now) (omega arith)))
