-- Document 01, "The held plan": advice on the run to lose, of the runs rs that stand.
use Rattle.std.specs.Prelude.{not, List, [], ◌∷◌, ℕ, zero, suc, ◌+◌, eqb, length, Result}
use Rattle.exact.specs.Lists.{keep}
use Rattle.exact.specs.declared.fractions.Verdict.{Verdict}
use Rattle.best.specs.Best.{lowest, best}
use Rattle.rules.specs.Plan.{Plan, every_column}
use Rattle.rules.specs.declared.Refusal.{Refusal}
use Rattle.rules.specs.Refusals.{Check, refusal, answered, bad_number, too_few}
use Rattle.compare.specs.Judged.{Judged, compare_judged}

-- the runs but run f
abbrev pub without : ℕ → List ℕ → List ℕ
without f rs = keep (λ g. not (eqb g f)) rs

module _ (p : Plan) where
  -- what the loss of run f leaves
  abbrev pub losing : List ℕ → ℕ → Judged
  losing rs f = record { plan = p; runs = without f rs; columns = every_column p }

  -- to lose f rather than g
  abbrev pub loss_order : List ℕ → ℕ → ℕ → Verdict
  loss_order rs f g = compare_judged (losing rs f) (losing rs g)

  -- the run whose loss leaves the best plan, lowest among equals; 0 where there is none
  unfoldable pub advice : List ℕ → ℕ
  advice rs = best lowest (loss_order rs) 0 rs

  -- the best k to lose, taking the advice k times in turn
  unfoldable pub in_turn : ℕ → List ℕ → List ℕ
  in_turn zero rs = []
  in_turn (suc k) rs = let f = advice rs in f ∷ in_turn k (without f rs)

-- ---- the answers, of the runs that stand

-- two or more must stand
abbrev pub advice_checks : List ℕ → List Check
advice_checks rs = too_few 2 (length rs) ∷ []

-- k is from 1 to 3, and more than k must stand
abbrev pub turns_checks : ℕ → List ℕ → List Check
turns_checks k rs = bad_number k ∷ too_few (k + 1) (length rs) ∷ []

module _ (p : Plan) (rs : List ℕ) where
  -- the run advised
  unfoldable pub advice_answer : (List Check → List Check) → Result ℕ Refusal
  advice_answer start = answered (refusal (start (advice_checks rs))) (advice p rs)

  -- the runs lost in turn
  unfoldable pub turns_answer : (List Check → List Check) → ℕ → Result (List ℕ) Refusal
  turns_answer start k = answered (refusal (start (turns_checks k rs))) (in_turn p k rs)
