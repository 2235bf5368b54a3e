-- The answers that are made of the measures of some runs, or of their words: they are those of the definitions.
use Rattle.exact.proofs.Ground.{true, false, Bool, List, ◌≡◌, ◌∙◌, sym, ap, refl, ℕ, ◌≤◌, ℤ, T, eqb, eqb-true, eqb-false, lt-ltb}
use Rattle.std.specs.Prelude.{Ok}
use Rattle.rules.specs.Plan.{Plan, columns, every_run}
use Rattle.rules.specs.Refusals.{Check, refusal, answered, of_plan, plan_checks}
use Rattle.rules.proofs.Answered.{ok-accepted}
use Rattle.rules.proofs.Order.{in_turn}
use Rattle.plan.specs.Good.{Good}
use Rattle.plan.proofs.Checks.{passed-good, plan-refused, plan-passed}
use Rattle.resolution.specs.Resolution.{resolution_in, resolution_checks, generalized_answer}
use Rattle.resolution.specs.Charts.{chart_of, figure_of, chart_answer, column_checks, figure_answer}
use Rattle.resolution.specs.Given.{Measured, measures, generalized_from, chart_from, resolution_from}
use Rattle.resolution.proofs.Rated.{found}

module _ (p : Plan) (rs : List ℕ) where
  -- every accepted plan has a column 0, so that an answer that names no column may ask for that one
  pub column-zero : 1 ≤ columns p → refusal (column_checks p rs 0) ≡ refusal (resolution_checks p rs)
  column-zero h = rw (lt-ltb 0 (columns p) h)

  module _ (start : List Check → List Check) (i : ℕ) where
    pub generalized-answered : generalized_answer p rs start ≡ answered (refusal (start (resolution_checks p rs))) (generalized_from (measures p rs i))
    unfolding generalized_answer measures
    generalized-answered = refl

    pub chart-answered : chart_answer p rs start ≡ answered (refusal (start (resolution_checks p rs))) (chart_from (measures p rs i))
    unfolding chart_answer chart_of measures
    chart-answered = refl

    pub figure-answered : figure_answer p rs start i ≡ answered (refusal (start (column_checks p rs i))) (figure_of (measures p rs i).held)
    unfolding figure_answer measures
    figure-answered = refl

  -- R of the words is that of the runs
  pub resolution-answered : (words : List ℤ) → Measured p rs words →
      resolution_from words (columns p) ≡ answered (refusal (resolution_checks p rs)) (resolution_in p rs)
  resolution-answered words M = rw (found p rs words M _ refl) refl

-- ---- of all runs of a plan, behind the checks of the plan

module _ (p : Plan) where
  pub plan-zero : refusal (of_plan p (column_checks p (every_run p) 0)) ≡ refusal (of_plan p (resolution_checks p (every_run p)))
  plan-zero = go (eqb (refusal (plan_checks p)).number 0) refl
    where
      go : (b : Bool) → eqb (refusal (plan_checks p)).number 0 ≡ b →
          refusal (of_plan p (column_checks p (every_run p) 0)) ≡ refusal (of_plan p (resolution_checks p (every_run p)))
      go true q =
          let z = eqb-true (refusal (plan_checks p)).number 0 q in
          plan-passed p (column_checks p (every_run p) 0) tt refl z
          ∙ column-zero p (every_run p) (passed-good p refl z).columns-low
          ∙ sym (plan-passed p (resolution_checks p (every_run p)) tt refl z)
      go false q =
          let n = eqb-false (refusal (plan_checks p)).number 0 q in
          plan-refused p (column_checks p (every_run p) 0) tt refl n ∙ sym (plan-refused p (resolution_checks p (every_run p)) tt refl n)

  -- a call that is answered was about a good plan
  pub answered-good : (checks : List Check) → T (in_turn (plan_checks p) checks) → {A : Type 0} (value : A) {y : A} →
      Ok y ≡ answered (refusal (of_plan p checks)) value → Good p
  answered-good checks turn value w = go (eqb (refusal (plan_checks p)).number 0) refl
    where
      go : (b : Bool) → eqb (refusal (plan_checks p)).number 0 ≡ b → Good p
      go true q = passed-good p refl (eqb-true (refusal (plan_checks p)).number 0 q)
      go false q =
          let n = eqb-false (refusal (plan_checks p)).number 0 q in
          absurd (n (ap (λ r. r.number) (sym (plan-refused p checks turn refl n)) ∙ ok-accepted (refusal (of_plan p checks)) value w))
