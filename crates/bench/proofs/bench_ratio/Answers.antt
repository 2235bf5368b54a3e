-- Thousandths are few, so that they fit.
use Rattle.exact.proofs.Ground.{◌∙◌, ap}
use Rattle.exact.proofs.Bits.{of}
use Rattle.rules.specs.Plan.{plan, every_run}
use Rattle.rules.specs.Refusals.{of_plan, number_or}
use Rattle.resolution.specs.Resolution.{resolution_checks, generalized_answer}
use Rattle.bench.specs.Exports.{thousandths_in, ratio_number}
use Rattle.bench.proofs.Answers.{thousandths-small, err-number}
use Rattle.bench.proofs.bench_ratio.Goals as goal

pub of_u64-requires : goal.of_u64-requires
of_u64-requires c = thousandths-small (plan c.args.levels.now c.args.table.now) c.in-Ok.ensures

pub number_or-requires : goal.number_or-requires
unfolding generalized_answer
number_or-requires c =
    let p = plan c.args.levels.now c.args.table.now in err-number _ (of_plan p (resolution_checks p (every_run p))) c.in-Err.ensures

pub returns-in-Ok : goal.returns-in-Ok
unfolding ratio_number
returns-in-Ok c = of c.of_u64.result c.of_u64.type_inv ∙ c.of_u64.ensures ∙ ap (λ a. number_or (thousandths_in a)) c.in-Ok.ensures

pub returns-in-Err : goal.returns-in-Err
unfolding ratio_number
returns-in-Err c = of c.number_or.result c.number_or.type_inv ∙ c.number_or.ensures ∙ ap (λ a. number_or (thousandths_in a)) c.in-Err.ensures
