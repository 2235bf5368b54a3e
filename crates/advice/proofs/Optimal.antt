-- Demand 3: no other single loss leaves a better plan than the loss of the run advised, which has the lowest number among equals.
use Rattle.exact.proofs.Ground.{List, Memᴰ, ◌≡◌, refl, ℕ, ◌≤◌, ◌<◌, arith, length}
use Rattle.exact.specs.Lawful.{Lawful}
use Rattle.exact.specs.declared.fractions.Verdict.TheVariants.{Better}
use Rattle.exact.proofs.Numbers.{length_from}
use Rattle.best.specs.Best.{lowest, IsBest}
use Rattle.best.proofs.Ranking.{by_part}
use Rattle.best.proofs.Best.{best-is, best-unique}
use Rattle.rules.specs.Plan.{Plan, columns}
use Rattle.compare.proofs.Lawful.{judged-lawful}
use Rattle.advice.specs.Advice.{losing, loss_order, advice}
use Rattle.advice.specs.Given.{Rising}
use Rattle.advice.proofs.Without.{without-length, rising-before}

module _ (p : Plan) (rs : List ℕ) (r : Rising rs) (two : 2 ≤ length rs) where
  pub losses-lawful : Lawful (λ f. Memᴰ f rs) (loss_order p rs)
  losses-lawful =
      by_part (judged-lawful (columns p)) (losing p rs)
      (λ f m. record { wide = length_from 0 (columns p); some = omega (arith, without-length f rs r m) }) (λ f g m n. refl)

  -- the advice is one of the runs, no other loss is better, and of equals it is the first
  pub advice-chosen : IsBest lowest (loss_order p rs) rs (advice p rs)
  unfolding advice
  advice-chosen = best-is losses-lawful lowest 0 rs (λ f m. m) (omega arith)

  -- which has the lowest number
  pub advice-lowest : (g : ℕ) → Memᴰ g rs → g < advice p rs → loss_order p rs (advice p rs) g ≡ Better
  advice-lowest g m l = let C = advice-chosen in C.beaten g (rising-before rs C.place (advice p rs) g r C.within C.there m l)

-- there is only one such run
pub advice-unique : (p : Plan) (rs : List ℕ) (a : ℕ) → IsBest lowest (loss_order p rs) rs a → advice p rs ≡ a
unfolding advice
advice-unique p rs a C = best-unique C 0
