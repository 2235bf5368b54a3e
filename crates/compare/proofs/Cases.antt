-- Which case a comparison is: the first plan's refusal, then the second's, and else the verdict, which there is exactly where both have as
-- many columns.
use Rattle.exact.proofs.Ground.{true, false, Bool, cond, not, ◌||◌, List, [], ◌≡◌, refl, ℕ, eqb}
use Rattle.std.specs.Prelude.{None, Some, Ok}
use Rattle.exact.specs.declared.fractions.Verdict.{Verdict}
use Rattle.rules.specs.Plan.{Plan, columns}
use Rattle.rules.specs.declared.Refusal.{Refusal}
use Rattle.rules.specs.Refusals.{Check, refusal, refuses, accepted}
use Rattle.compare.specs.Compare.{comparison_says, refusal_of, compare_patterns, pattern_of, compare_answer}

module _ (start : List Check → List Check) (p : Plan) (rs : List ℕ) (start_other : List Check → List Check) (q : Plan) (ss : List ℕ) where
  pub comparison-says :
      let r = refusal (start []) in
      let s = refusal (start_other []) in
      comparison_says (compare_answer start p rs start_other q ss)
      ≡ record {
        refused = cond (refuses r) r (cond (refuses s) s accepted);
        plan = cond (refuses r) 1 (cond (refuses s) 2 0);
        verdict = cond (refuses r || refuses s || not (eqb (columns p) (columns q))) None (Some (compare_patterns (pattern_of p rs) (pattern_of q ss)));
      }
  unfolding compare_answer
  comparison-says = go (refuses r) (refuses s) (eqb (columns p) (columns q))
    where
      r : Refusal
      r = refusal (start [])

      s : Refusal
      s = refusal (start_other [])

      v : Verdict
      v = compare_patterns (pattern_of p rs) (pattern_of q ss)

      go : (a b c : Bool) →
          comparison_says (cond a (refusal_of 1 r) (cond b (refusal_of 2 s) (Ok (cond c (Some v) None))))
          ≡ record { refused = cond a r (cond b s accepted); plan = cond a 1 (cond b 2 0); verdict = cond (a || b || not c) None (Some v) }
      go true b c = refl
      go false true c = refl
      go false false true = refl
      go false false false = refl
