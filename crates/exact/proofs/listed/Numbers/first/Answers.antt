-- Each turn writes one number more.
use Rattle.exact.proofs.Ground.{◌≡◌, ◌-◌, ◌∙◌, ap, refl, arith, length, set}
use Rattle.exact.specs.Lists.{from, filled_to}
use Rattle.exact.proofs.Numbers.{length_from}
use Rattle.exact.proofs.Rooms.{number-written, numbers-front, filled-length, filled-first}
use Rattle.exact.proofs.listed.Numbers.first.Goals as goal

pub loop-k-preserved : goal.loop-k-preserved
loop-k-preserved g c = ap (λ room. set room c.loop-k.k c.loop-k.k) c.loop-k.invariant ∙ number-written c.loop-k.k g.row.N (omega arith)

pub returns : goal.returns
returns g c =
    let e : c.loop-k.k ≡ c.args.n = omega arith in
    rw (c.loop-k.invariant, e) (numbers-front c.args.n (g.row.N - c.args.n))

pub invariant_of-result : goal.invariant_of-result
invariant_of-result g c =
    let e : c.loop-k.k ≡ c.args.n = omega arith in
    let long : length (from 0 c.args.n) ≡ c.args.n = length_from 0 c.args.n in
    let filled : c.loop-k.places ≡ filled_to g.row.N 0 (from 0 c.args.n) = c.loop-k.invariant ∙ rw (e, long) refl in (
      c.requires,
      ap length filled ∙ filled-length g.row.N 0 (from 0 c.args.n) (rw long c.requires),
      filled-first g.row.N c.args.n 0 (from 0 c.args.n) filled long,
    )
