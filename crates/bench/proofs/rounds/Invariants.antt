use Rattle.exact.proofs.Ground.{◌≡◌}
use Rattle.bench.specs.Exports.{rounds}
use Rattle.bench.proofs.rounds.Given as goal

abbrev pub invariant-loop : goal.invariant-loop
invariant-loop l = l.turned ≡ rounds l.fn.held l.counter
