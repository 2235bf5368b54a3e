-- The measures are those of every run, and the three parts stand one behind the other.
use Rattle.exact.proofs.Ground.{◌++◌, ◌∙◌, ap, arith}
use Rattle.rules.specs.Plan.{plan}
use Rattle.text.proofs.Puts.{put_as, put_both}
use Rattle.listing_lines.specs.Listing.{count_lines, advice_line, plan_listing}
use Rattle.listing_lines.specs.Parts.{lines_of_rating}
use Rattle.listing_lines.proofs.Ratings.{rating-lines}
use Rattle.listing_lines.proofs.routines.write_plan.Goals as goal

pub returns : goal.returns
unfolding plan_listing
returns c =
    let p = plan c.args.levels.now c.args.table.now in
    put_as (ap (λ l. count_lines p ++ l ++ advice_line p) (ap lines_of_rating c.rated-rating.ensures ∙ rating-lines p)) (omega arith)
    (put_both (put_both c.write_counts-counted.ensures c.write_resolution-resolved.ensures) c.write_advice.ensures)
