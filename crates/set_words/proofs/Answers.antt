-- What the checks of a projection tell, and what a call on a plan hands over: a projection size, a projection, runs for a table.
use Rattle.exact.proofs.Ground.{List, [], ◌∷◌, ◌≡◌, ℕ, arith, T}
use Rattle.exact.proofs.Numbers.{length_from}
use Rattle.rules.specs.declared.Refusal.{Refusal}
use Rattle.rules.specs.Plan.{Plan, columns, runs, every_run}
use Rattle.std.specs.Prelude.{Ok}
use Rattle.rules.specs.Refusals.{refusal, answered, plan_checks, bad_size, is_set}
use Rattle.sets.proofs.Questions.{size-passed}
use Rattle.sets.proofs.Rising.{set-part}
use Rattle.plan.specs.Good.{Good, Sound}
use Rattle.plan.proofs.Sound.{good-sound}
use Rattle.plan.proofs.Answers.{begun-good}
use Rattle.set_words.specs.Given.{Projection, SizeOf, Tabled}
use Rattle.set_words.proofs.Products.{part-projection}

pub size-given : (m f : ℕ) {r : Refusal} → r ≡ refusal (bad_size m f ∷ []) → r.number ≡ 0 → SizeOf m f
size-given m f e z = let (low, high, within) = size-passed m f e z in record { low = low; high = high; within = within }

pub set_given : (p : Plan) (rs I : List ℕ) → Sound p rs → T (is_set (columns p) I) → Projection p I
set_given p rs I S s = part-projection p S.level-low S.small I (set-part (columns p) I s)

-- every run of a good plan
pub good-tabled : (p : Plan) → Good p → Tabled p (every_run p)
good-tabled p G = record {
  sound = good-sound p G;
  some = omega (arith, G.runs-low, length_from 0 (runs p));
}

-- every run of a plan past its checks
pub begun-tabled : {A : Type 0} (p : Plan) (x : A) {y : A} → Ok y ≡ answered (refusal (plan_checks p)) x → Tabled p (every_run p)
begun-tabled p x w = good-tabled p (begun-good p x w)
