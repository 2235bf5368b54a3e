-- `routines::over` meets its contract: the word is not negative, so that its size is the numerator, and 256 squared fits.
use Rattle.exact.proofs.Ground.{◌∙◌, ap, arith}
use Rattle.exact.proofs.Bits.{back}
use Rattle.exact.proofs.Numbers.{mul-below}
use Rattle.compare.specs.Compare.{over}
use Rattle.compare.proofs.routines.over.Statement.{statement}
use Rattle.compare.proofs.routines.over.Tie as tie

to-u64-requires : tie.Need-to_u64-num-requires
to-u64-requires c κs = rw (back c.ranges.word) c.requires.not_negative

mul-den : tie.Need-overflow_mul-den
mul-den c = let n = c.args.n in omega (arith, mul-below n n 256 256 c.requires.few c.requires.few)

returns : tie.Need-returns
returns c = ap (over c.args.n) (c.to_u64-num.ensures ∙ back c.ranges.word)

pub over_spec : {M : Type 1} → statement M
over_spec = tie.close (tie.spec to-u64-requires mul-den returns)
