-- Sums over all runs: what both orders of each pair make of one, and the row sums of each run over the others.
use Rattle.std.specs.Prelude.{List, map, ◌++◌, ℕ, length, get_or, drop, replicate, ℤ, pos, ◌+ℤ◌, ◌-ℤ◌, ◌*ℤ◌}
use Rattle.exact.specs.Lists.{from}
use Rattle.rules.specs.Plan.{Plan, level, entry, every_column, most_columns, most_runs}
use Rattle.pairs.specs.Words.{row_sum, diagonal}
use Rattle.pairs.specs.Lists.{by_length, zeros}
use Rattle.words.specs.declared.Sums.{Sums}
pub use Rattle.pairs.specs.Given.{Row}

-- sums with each pair in one order, made sums with both orders of it and with n further pairs that add `own` each
unfoldable pub both_orders : ℕ → List ℤ → List ℤ → List ℤ
both_orders n own once = map (λ k. pos 2 *ℤ get_or once k (pos 0) +ℤ pos n *ℤ get_or own k (pos 0)) (from 0 most_columns)

module _ (p : Plan) (rs : List ℕ) where
  -- the row sums of run f, one of the runs rs, over the others: its pair with itself, which adds E, is left out
  unfoldable pub others_list : ℕ → List ℤ
  others_list f = by_length (λ j. row_sum (level p) (entry p) rs (every_column p) j f -ℤ diagonal (level p) (every_column p) j)

  -- those of the run at each place of rs; zero at the places left over
  unfoldable pub others_by_place : List Sums
  others_by_place =
      map (λ k. record { sums = others_list (get_or rs k 0) }) (from 0 (length rs))
      ++ drop (length rs) (replicate most_runs (record { sums = zeros }))
