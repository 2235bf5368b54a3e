-- The counters are lent at zero, and the second list of runs is empty.
use Rattle.exact.proofs.Ground.{List, [], ◌≡◌, ◌∙◌, sym, ap, ℕ, arith, length, replicate, length-replicate}
use Rattle.rules.specs.Plan.{Plan, plan, most_columns}
use Rattle.pairs.specs.Given.{added}
use Rattle.pairs.specs.Lists.{row_list}
use Rattle.pairs.proofs.Totals.{totals-none, long-totals, added_none}
use Rattle.pairs.proofs.OfPlan.{of_pair, row-totals, sound-take}
use Rattle.tally.proofs.Turns.{lent-new, lent-take}
use Rattle.row_tally.proofs.Rows.{kept_new}
use Rattle.row_tally.proofs.routines.row_by_cells.Goals as goal

-- no runs add nothing
row-none : (p : Plan) (rs : List ℕ) (f : ℕ) → added (row_list p rs f) (row_list p [] f) ≡ row_list p rs f
row-none p rs f = ap (added (row_list p rs f)) (sym (row-totals p [] f) ∙ totals-none (of_pair p f)) ∙ added_none (row_list p rs f) long
  where
    long : length (row_list p rs f) ≡ most_columns
    long = ap length (sym (row-totals p rs f)) ∙ long-totals (of_pair p f) rs

pub row_in-requires : goal.row_in-requires
row_in-requires c =
    let p = plan c.args.levels.now c.args.table.now in (
      record { at = c.strides_of-strides.ensures.at },
      c.requires.0,
      sound-take p c.args.runs.now c.requires.0 0,
      c.requires.1,
      lent-take (replicate 168 0) (replicate 168 0) (lent-new 168 (omega arith)) c.places_of-places.result
          (omega (arith, c.places_of-places.ensures, length-replicate {A = ℕ} 168 0)),
      kept_new p 1 24 (omega arith) (omega arith),
    )

pub returns : goal.returns
returns c = c.row_in.ensures.0 ∙ row-none (plan c.args.levels.now c.args.table.now) c.args.runs.now c.args.f
