-- `fractions::smaller_fraction` meets its contract: fractions compare as their quotients do, and where these are equal as what is left does.
use Rattle.exact.proofs.Ground.{◌∙◌, rules}
use Rattle.exact.proofs.Verdicts.{rest-fits, quotients-differ, quotients_equal}
use Rattle.exact.proofs.fractions.smaller_fraction.Statement.{statement}
use Rattle.exact.proofs.fractions.smaller_fraction.Tie as tie

returns : tie.Need-returns-then-left-right
returns c =
    let start = c in
    c.smaller.ensures ∙ quotients-differ start.args.x start.args.y start.requires.0 start.requires.1 c.if-left-right.true

mul-smaller : tie.Need-overflow_mul-x
mul-smaller c =
    let start = c in
    record { fits = rest-fits start.args.x start.args.y start.requires.0 start.requires.1 }

mul-smaller-2 : tie.Need-overflow_mul-y
mul-smaller-2 c =
    let start = c in
    record { fits = rest-fits start.args.y start.args.x start.requires.1 start.requires.0 }

returns-2 : tie.Need-returns
returns-2 c =
    let tested = c in
    let start = tested in
    c.smaller-2.ensures ∙ quotients_equal start.args.x start.args.y start.requires.0 start.requires.1 tested.if-left-right.false

pub smaller_fraction_spec : {M : Type 1} → statement M
smaller_fraction_spec =
    tie.close
    (tie.spec
    (λ c. search rules)
    (λ c. search rules)
    (λ c κs. search rules)
    returns
    (λ c. search rules)
    mul-smaller
    (λ c. search rules)
    mul-smaller-2
    (λ c κs. search rules)
    returns-2)
