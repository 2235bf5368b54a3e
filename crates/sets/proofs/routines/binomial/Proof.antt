-- `sets::routines::binomial` meets its contract: the table has Pascal's rule at each of its places, so every entry is the binomial.
use Rattle.exact.proofs.Ground.{rules}
use Rattle.sets.proofs.Pascal.{table, table-binom}
use Rattle.sets.proofs.routines.binomial.Statement.{statement}
use Rattle.sets.proofs.routines.binomial.Tie as tie

returns : tie.Need-returns
unfolding table
returns c = table-binom c.args.a c.args.b c.requires.0 c.requires.1

pub binomial_spec : {M : Type 1} → statement M
binomial_spec = tie.close (tie.spec (λ c. search rules) (λ c. search rules) (λ c. search rules) (λ c. search rules) returns)
