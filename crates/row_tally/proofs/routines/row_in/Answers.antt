-- Nothing is counted before the first run, and nothing after the counters are cleared.
use Rattle.exact.proofs.Ground.{◌≡◌, ◌∙◌, sym, ap, subst, ℕ, ◌+◌, ◌*◌, ◌^◌, arith, length, replicate, length-replicate}
use Rattle.rules.specs.Plan.{plan, highest_product}
use Rattle.pairs.specs.Given.{added}
use Rattle.pairs.specs.Lists.{zeros, row_list}
use Rattle.tally.specs.Tally.{Lent}
use Rattle.tally.proofs.Turns.{row-less, few-less, counted-then, zeros-added, blank-worth, blank-few, blank-row, cleared}
use Rattle.row_tally.proofs.routines.row_in.Goals as goal

pub tally_runs-requires-2 : goal.tally_runs-requires-2
tally_runs-requires-2 c =
    let p = plan c.args.levels.now c.args.table.now in let C = c.tally_runs.ensures in (
      c.requires.0,
      c.requires.2,
      c.requires.3,
      row-less (0 + 256 * highest_product) (2 ^ 59) _ (omega arith) (C.row 0 (blank-row 0)),
      C.tally,
      few-less (0 + 256) 65024 _ (omega arith) (C.few 0 (blank-few p c.args.counts.now c.args.samples.now c.requires.4 0)),
    )

pub settle-requires : goal.settle-requires
settle-requires c =
    let p = plan c.args.levels.now c.args.table.now in let C = c.tally_runs.ensures in let D = c.tally_runs-2.ensures in (
      row-less (0 + 256 * highest_product + 256 * highest_product) (2 ^ 59) _ (omega arith) (D.row (0 + 256 * highest_product) (C.row 0 (blank-row 0))),
      D.tally,
      few-less (0 + 256 + 256) 65535 _ (omega arith) (D.few (0 + 256) (C.few 0 (blank-few p c.args.counts.now c.args.samples.now c.requires.4 0))),
      c.requires.5,
    )

pub returns : goal.returns
returns c =
    let p = plan c.args.levels.now c.args.table.now in let counts = c.args.counts.now in let samples = c.args.samples.now in
    let C = c.tally_runs.ensures in let D = c.tally_runs-2.ensures in
    let earlier = row_list p c.args.earlier.now c.args.f in let later = row_list p c.args.later.now c.args.f in
    let blank : c.fill.new.self ≡ replicate (length c.tally_runs-2.new.counts) 0 = c.fill.ensures.after (λ y e. e) in
    let both = counted-then p zeros counts samples c.tally_runs.new.total c.tally_runs.new.counts c.tally_runs.new.samples 256 earlier C
    c.tally_runs-2.new.total c.tally_runs-2.new.counts c.tally_runs-2.new.samples 256 later D in (
      c.settle.ensures.0
          ∙ both.gains
          ∙ ap (λ z. added z (added earlier later)) (blank-worth p counts samples c.requires.4)
          ∙ zeros-added earlier later,
      subst (λ out. Lent out c.tally_runs-2.new.samples) (sym blank) (cleared p c.tally_runs-2.new.counts c.tally_runs-2.new.samples D.tally),
      ap length blank ∙ length-replicate {A = ℕ} (length c.tally_runs-2.new.counts) 0 ∙ both.long,
      c.settle.ensures.1,
    )
