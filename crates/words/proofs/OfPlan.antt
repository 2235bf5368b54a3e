-- The laws, of some runs of a plan: no word is negative, and the row sums by run number. Those on pairs and rows are passed on from `pairs`.
use Rattle.exact.proofs.Ground.{Bool, cond, List, [], ◌≡◌, refl, ℕ, arith, pos, replicate, ◌≤ℤ◌}
use Rattle.exact.proofs.Numbers.{mem-from}
use Rattle.rules.specs.Plan.{Plan, columns, level, entry, every_column, most_runs}
use Rattle.plan.specs.Good.{Sound}
use Rattle.pairs.specs.Words.{word}
use Rattle.pairs.specs.Lists.{zeros, row_list}
use Rattle.words.specs.declared.Sums.{Sums}
use Rattle.words.specs.Answers.{rows_by_run}
use Rattle.words.proofs.Positive.{word-nonneg}
use Rattle.words.proofs.Marked.{marked}
pub use Rattle.pairs.proofs.OfPlan.{sound-run, sound-some, sound-levels, row_small, word_small, diagonal-small, word_none}

module _ (p : Plan) where
  -- what the place of a run holds: its row sums where it is one of the runs, and zeros where it is not
  abbrev pub place : List ℕ → Bool → ℕ → Sums
  place rs b f = record { sums = cond b (row_list p rs f) zeros }

  pub rows_none : (rs : List ℕ) → marked (place rs) most_runs [] ≡ replicate most_runs (record { sums = zeros })
  unfolding marked
  rows_none rs = refl

  pub rows-marked : (rs : List ℕ) → marked (place rs) most_runs rs ≡ rows_by_run p rs
  unfolding marked rows_by_run
  rows-marked rs = refl

module _ (p : Plan) (rs : List ℕ) (S : Sound p rs) where
  pub word-not-negative : (j : ℕ) → pos 0 ≤ℤ word (level p) (entry p) rs (every_column p) j
  word-not-negative =
      word-nonneg (level p) (entry p) rs (every_column p)
      (λ i k. let q = mem-from 0 (columns p) k in (S.level-low i (omega arith), λ f m. S.below f m i (omega arith)))
