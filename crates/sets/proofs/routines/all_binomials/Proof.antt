-- `sets::routines::all_binomials` meets its contract: the table has Pascal's rule at each of its places, so every entry is the binomial.
use Rattle.sets.proofs.Pascal.{table, table-binom}
use Rattle.sets.proofs.routines.all_binomials.Statement.{statement}
use Rattle.sets.proofs.routines.all_binomials.Tie as tie

returns : tie.Need-returns
unfolding table
returns c = table-binom

pub all_binomials_spec : {M : Type 1} → statement M
all_binomials_spec = tie.close (tie.spec returns)
