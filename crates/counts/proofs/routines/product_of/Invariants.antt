use Rattle.exact.proofs.Ground.{[], ◌≡◌, ◌≤◌, ◌+◌, take}
use Rattle.rules.specs.Plan.{plan, level}
use Rattle.counts.specs.Numbered.{product_of}
use Rattle.counts.proofs.routines.product_of.Given as goal

abbrev pub invariant-loop-i : goal.invariant-loop-i
invariant-loop-i l = record {
  within : l.product ≤ l.limit + 1;
  so_far : l.product ≡ product_of (level (plan l.levels [])) (take l.i-index l.columns);
}
