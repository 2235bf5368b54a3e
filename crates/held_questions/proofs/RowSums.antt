-- A held plan's row sums, by original run numbers: a run that stands has its own over the runs that stand, and a struck run holds zeros.
use Rattle.exact.proofs.Ground.{false, cond, List, [], ◌∷◌, Memᴰ, mem-not_nil, ◌≡◌, ◌∙◌, ap, refl, ℕ, ◌<◌, zero-add}
use Rattle.exact.proofs.Ground.{arith, eqb, ℤ, length, get_or, ne_eqb}
use Rattle.std.specs.Prelude.{Ok}
use Rattle.exact.specs.Lists.{holds}
use Rattle.exact.proofs.Members.{mem-holds, holds-mem}
use Rattle.exact.proofs.Numbers.{map-from-at}
use Rattle.exact.proofs.Tests.{is_true, is_false}
use Rattle.rules.specs.Plan.{Plan, most_runs}
use Rattle.rules.proofs.Answered.{ok-is}
use Rattle.words.specs.Answers.{zeros, row_list, rows_by_run, row_sums_answer}
use Rattle.words.specs.declared.Sums.{Sums}
use Rattle.held.specs.declared.Held.{Held}
use Rattle.held.specs.Held.{plan_in, standing_in}
use Rattle.held_questions.specs.Answers.{held_row_sums}

abbrev made : List ℤ → Sums
made sums = record { sums = sums }

-- the row sums at run f, of the runs rs
module _ (p : Plan) (rs : List ℕ) (f : ℕ) (d : Sums) (there : f < most_runs) where
  row_at : get_or (rows_by_run p rs) f d ≡ made (cond (holds f rs) (row_list p rs f) zeros)
  unfolding rows_by_run
  row_at =
      map-from-at (λ g. made (cond (holds g rs) (row_list p rs g) zeros)) 0 most_runs f d there
      ∙ ap (λ g. made (cond (holds g rs) (row_list p rs g) zeros)) (zero-add f)

  struck : ¬ (Memᴰ f rs) → get_or (rows_by_run p rs) f d ≡ made zeros
  struck n = row_at ∙ ap (λ b. made (cond b (row_list p rs f) zeros)) (is_false (holds f rs) (λ t. n (holds-mem f rs (is_true (holds f rs) t))))

  stands : Memᴰ f rs → get_or (rows_by_run p rs) f d ≡ made (row_list p rs f)
  stands m = row_at ∙ ap (λ b. made (cond b (row_list p rs f) zeros)) (mem-holds f rs m)

some-run : (f : ℕ) (rs : List ℕ) → Memᴰ f rs → eqb (length rs) 0 ≡ false
some-run f [] m = absurd (mem-not_nil m)
some-run f (g ∷ rs) m = ne_eqb (length (g ∷ rs)) 0 (λ e. omega arith)

module _ (h : Held) (f : ℕ) (d : Sums) (there : f < most_runs) where
  -- whatever rows are answered
  pub row-struck : ¬ (Memᴰ f (standing_in h)) → {rows : List Sums} → Ok rows ≡ (held_row_sums h).answer → get_or rows f d ≡ record { sums = zeros }
  unfolding held_row_sums row_sums_answer
  row-struck n w = rw (ok-is _ (rows_by_run (plan_in h) (standing_in h)) w) (struck (plan_in h) (standing_in h) f d there n)

  -- where a run stands, rows are answered
  pub row-standing : Memᴰ f (standing_in h) →
      (rows : List Sums) × ((held_row_sums h).answer ≡ Ok rows) × (get_or rows f d ≡ record { sums = row_list (plan_in h) (standing_in h) f })
  unfolding held_row_sums row_sums_answer
  row-standing m = (
    rows_by_run (plan_in h) (standing_in h),
    rw (some-run f (standing_in h) m) refl,
    stands (plan_in h) (standing_in h) f d there m,
  )
