-- The first place that is found is the first that holds the number.
use Rattle.exact.proofs.Ground.{◌≡◌, ◌∙◌}
use Rattle.std.proofs.Common.{rules, tests}
use Rattle.std.proofs.lemmas.Iterator.{IsFirst-from_position, YieldsList-from_slice}
use Rattle.tell_lines.proofs.Least.{place-found-by}
use Rattle.tell_lines.proofs.routines.place_of.Goals as goal

pub returns : goal.returns
returns c =
    let n = c.args.number in
    c.unwrap_or.ensures
    ∙ place-found-by c.args.numbers.now n c.position.result
    (IsFirst-from_position _ _ _ (λ x. x ≡ n) (λ x. ¬ (x ≡ n)) c.position.ensures.ran (YieldsList-from_slice c.args.numbers.now cc)
    (λ x q k. search (rules, tests)) (λ x q k. search (rules, tests)))
