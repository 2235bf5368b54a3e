-- Every run of a good plan, with what the routines over some of its runs are given.
use Rattle.exact.proofs.Ground.{map, Memᴰ, ◌≡◌, ◌∙◌, ℕ, ◌<◌, zero-add, arith, get_or}
use Rattle.exact.proofs.Numbers.{length_from, from_at, from-mem, mem-from, map-places, row_within}
use Rattle.rules.specs.Plan.{Plan, columns, runs, level, every_column, every_run}
use Rattle.plan.specs.Good.{Good, Sound}

module _ (p : Plan) where
  pub run-mem : (f : ℕ) → f < runs p → Memᴰ f (every_run p)
  run-mem f h = from-mem f 0 (runs p) (omega arith) (omega arith)

  pub run_at : (f : ℕ) → f < runs p → get_or (every_run p) f 0 ≡ f
  run_at f h = from_at 0 (runs p) f 0 h ∙ zero-add f

  pub mem-run : (f : ℕ) → Memᴰ f (every_run p) → f < runs p
  mem-run f m = omega (arith, mem-from 0 (runs p) m)

  pub good-sound : Good p → Sound p (every_run p)
  good-sound G = record {
    columns-high = G.columns-high;
    level-low = λ i h. omega (arith, G.level-low i h);
    level-high = G.level-high;
    small = G.small;
    few = omega (arith, G.runs-high, length_from 0 (runs p));
    numbered = λ f m. omega (arith, G.runs-high, mem-run f m);
    inside = λ f m. omega (arith, G.size, row_within f (runs p) (columns p) (mem-run f m));
    below = λ f m i h. G.below f i (mem-run f m) h;
  }

  -- the levels, column by column
  pub map-level : map (level p) (every_column p) ≡ p.levels
  map-level = map-places p.levels 0
