-- `set_ratios::squares` meets its contract: the numbers use the first counters only.
use Rattle.exact.proofs.Ground.{rules, Memᴰ, ◌∙◌, sym, ap, subst, ℕ, ◌≤◌, ◌<◌, arith, length, get_or, take}
use Rattle.rules.specs.Plan.{most_runs}
use Rattle.parts.specs.Parts.{longer}
use Rattle.set_ratios.specs.Given.{squares_in, cleared}
use Rattle.set_ratios.proofs.Tallied.{longer-length, longer-below, tallied-length, tallied-few, tallied-front, tallied-cleared}
use Rattle.set_ratios.proofs.squares.Statement.{statement}
use Rattle.set_ratios.proofs.squares.Tie as tie

count-requires : tie.Need-count-requires
count-requires c κs =
    let s = c in
    (s.requires.0, ((λ k h. omega (arith, s.requires.1.0 k h, s.requires.1.1.0)), s.requires.1.1.1.zero))

take-squares-requires : tie.Need-take_squares-requires
take-squares-requires c κs =
    let s = c in
    let xs = longer s.args.level s.args.numbers.now s.args.digits.now in
    let C = c.count.ensures in
    let few : length xs ≤ most_runs = omega (arith, longer-length s.args.level s.args.numbers.now s.args.digits.now, s.requires.0.0) in
    let long = ap length C ∙ tallied-length (length s.args.counters.now) xs in (
      (omega (arith, long, s.requires.1.1.0), omega (arith, long, s.requires.1.1.1.few)),
      λ k h. subst (λ d. get_or d k 0 ≤ most_runs) (sym C) (tallied-few (length s.args.counters.now) xs few k (omega (arith, long))),
    )

returns : tie.Need-returns
returns c =
    let s = c in
    let xs = longer s.args.level s.args.numbers.now s.args.digits.now in
    let below : (x : ℕ) → Memᴰ x xs → x < s.args.many
    = longer-below s.args.level s.args.numbers.now s.args.digits.now s.args.many s.requires.1.0 in
    let C = c.count.ensures in (
      c.take_squares.ensures.0 ∙ ap (λ d. squares_in (take s.args.many d)) C ∙ ap squares_in (tallied-front (length s.args.counters.now) s.args.many xs s.requires.1.1.0 below),
      c.take_squares.ensures.1 ∙ ap (cleared s.args.many) C ∙ tallied-cleared (length s.args.counters.now) s.args.many xs s.requires.1.1.0 below ∙ sym s.requires.1.1.1.zero,
    )

pub squares_spec : {M : Type 1} → statement M
squares_spec = tie.close (tie.spec count-requires take-squares-requires (λ c. search rules) returns)
