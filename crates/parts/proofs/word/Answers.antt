-- Before the first column every run has the number 0, and the weight is the empty part's sign.
use Rattle.exact.proofs.Ground.{◌≡◌, ◌∙◌, refl, length, w64, to_z, of_z}
use Rattle.exact.proofs.Bits.{of}
use Rattle.rules.specs.Plan.{plan}
use Rattle.parts.specs.Parts.{sign}
use Rattle.parts.proofs.OverParts.{weighed-as, over-as}
use Rattle.parts.proofs.FromCounts.{no-numbers, begun, word-found}
use Rattle.parts.proofs.word.Goals.{After-sign-weight}
use Rattle.parts.proofs.word.Goals as goal

-- the weight, read back from its bits
weight : (c : After-sign-weight) → to_z w64 (of_z w64 c.sign-weight.result) ≡ sign (length c.args.columns.now)
weight c = of c.sign-weight.result c.sign-weight.type_inv ∙ c.sign-weight.ensures

pub over_parts-requires : goal.over_parts-requires
over_parts-requires c =
    let p = plan c.args.levels.now c.args.table.now in
    let (K, few) = c.requires.columns in (
      weighed-as c.args.levels.now refl c.turned-digits.ensures (no-numbers p c.args.runs.now c.args.columns.now c.requires.sound K few)
          (weight (goal.at.over_parts-requires c).After-sign-weight) (begun p c.args.runs.now c.args.columns.now c.requires.sound K few),
      c.requires.counters_value,
    )

pub returns-clause-word : goal.returns-clause-word
returns-clause-word c =
    let p = plan c.args.levels.now c.args.table.now in
    let (K, few) = c.requires.columns in
    of c.over_parts.result c.over_parts.type_inv ∙ c.over_parts.ensures.sum
    ∙ over-as {I = c.args.columns.now} c.args.levels.now refl c.turned-digits.ensures
    (no-numbers p c.args.runs.now c.args.columns.now c.requires.sound K few)
    (weight (goal.at.returns-clause-word c).After-sign-weight)
    ∙ word-found p c.args.runs.now c.args.columns.now c.requires.sound K few
