-- What the checks of an answer tell where they pass, and that every run of an accepted plan stands.
use Rattle.exact.proofs.Ground.{List, mem-head, mem-tail, ◌≡◌, refl, ℕ, ◌≤◌, ◌<◌, ◌+◌, suc, zero, arith, length, ltb-false}
use Rattle.exact.specs.Lists.{from}
use Rattle.exact.proofs.Numbers.{mem-from}
use Rattle.rules.specs.declared.Refusal.{Refusal}
use Rattle.rules.specs.Plan.{Plan, runs, every_run}
use Rattle.rules.specs.Refusals.{refusal, bad_number, too_few}
use Rattle.rules.proofs.Order.{passed_none}
use Rattle.rules.proofs.Ranges.{inside}
use Rattle.plan.specs.Good.{Good}
use Rattle.plan.proofs.Sound.{good-sound}
use Rattle.advice.specs.Advice.{advice_checks, turns_checks}
use Rattle.advice.specs.Given.{Rising, Standing}

module _ (rs : List ℕ) {r : Refusal} where
  pub two-stand : r ≡ refusal (advice_checks rs) → r.number ≡ 0 → 2 ≤ length rs
  two-stand e z = ltb-false (length rs) 2 (passed_none (advice_checks rs) tt e z (too_few 2 (length rs)) (mem-head refl))

  pub more-stand : (k : ℕ) → r ≡ refusal (turns_checks k rs) → r.number ≡ 0 → (k ≤ 3) × (k < length rs)
  more-stand k e z =
      let passes = passed_none (turns_checks k rs) tt e z in
      let few = ltb-false (length rs) (k + 1) (passes (too_few (k + 1) (length rs)) (mem-tail (mem-head refl))) in
      ((inside 1 3 k (passes (bad_number k) (mem-head refl))).1, omega arith)

from-rising : (a n : ℕ) → Rising (from a n)
from-rising a zero = tt
from-rising a (suc n) = (λ y m. omega (arith, mem-from (suc a) n m), from-rising (suc a) n)

pub good-standing : (p : Plan) → Good p → Standing p (every_run p)
good-standing p G = record { sound = good-sound p G; rising = from-rising 0 (runs p) }
