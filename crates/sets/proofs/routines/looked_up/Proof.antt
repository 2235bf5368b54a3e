-- `sets::routines::looked_up` meets its contract.
use Rattle.exact.proofs.Ground.{rules}
use Rattle.sets.proofs.routines.looked_up.Statement.{statement}
use Rattle.sets.proofs.routines.looked_up.Tie as tie

returns : tie.Need-returns
returns c = let s = c in s.requires.0 s.args.a s.args.b s.requires.1.0 s.requires.1.1

pub looked_up_spec : {M : Type 1} → statement M
looked_up_spec = tie.close (tie.spec (λ c. search rules) (λ c. search rules) (λ c. search rules) (λ c. search rules) returns)
