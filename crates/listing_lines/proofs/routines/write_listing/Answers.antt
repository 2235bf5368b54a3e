-- The reader's refusal is that of the listing, since its rooms hold every accepted plan; such a plan stands in front of them.
use Rattle.exact.proofs.Ground.{◌∙◌, ap, ap₂, subst⁻¹, arith}
use Rattle.rules.specs.Plan.{plan}
use Rattle.plan.specs.Good.{Good}
use Rattle.text.proofs.Puts.{put_as}
use Rattle.text.proofs.InFront.{in-front}
use Rattle.listing_lines.specs.Listing.{plan_listing}
use Rattle.listing_lines.proofs.Texts.{listing-refused, listing-accepted}
use Rattle.listing_lines.proofs.routines.write_listing.Goals as goal

pub write_plan-requires : goal.write_plan-requires
write_plan-requires c =
    let r = c.in-Ok.ensures in
    let F = in-front c.args.text.now r.answer _ _ r.levels r.table in
    (subst⁻¹ Good (ap₂ plan F.levels F.table) F.good, c.requires)

pub returns-in-Ok : goal.returns-in-Ok
returns-in-Ok c =
    let r = c.in-Ok.ensures in
    let F = in-front c.args.text.now r.answer _ _ r.levels r.table in
    put_as (ap plan_listing (ap₂ plan F.levels F.table) ∙ listing-accepted c.args.text.now r.answer) (omega arith) c.write_plan.ensures

pub returns-in-Err : goal.returns-in-Err
returns-in-Err c = put_as (listing-refused c.args.text.now c.in-Err.ensures.answer) (omega arith) c.write_refusal.ensures
