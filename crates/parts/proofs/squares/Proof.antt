-- `parts::squares` meets its contract: counted, cleared, and read as a signed number.
use Rattle.exact.proofs.Ground.{◌∙◌, arith, rules}
use Rattle.exact.proofs.Bits.{of}
use Rattle.parts.proofs.Squared.{squares-small}
use Rattle.parts.proofs.squares.Statement.{statement}
use Rattle.parts.proofs.squares.Tie as tie

of-u64-requires : tie.Need-of_u64-requires
of-u64-requires c κs =
    let f = c in
    omega (arith, squares-small f.count-total.result f.args.numbers.now f.count-total.ensures.0 f.requires.0)

returns : tie.Need-returns
returns c =
    let f = c in
    (of c.of_u64.result c.of_u64.type_inv ∙ c.of_u64.ensures ∙ f.count-total.ensures.0, c.clear.ensures)

pub squares_spec : {M : Type 1} → statement M
squares_spec = tie.close (tie.spec (λ c κs. search rules) (λ c κs. search rules) of-u64-requires returns)
