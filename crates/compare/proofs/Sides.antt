-- A side that stands for some runs of a plan, and the comparison of two.
use Rattle.exact.proofs.Ground.{true, false, Bool, cond, not, List, [], ◌≡◌, sym, ap, refl, ℕ, eqb, eqb-true}
use Rattle.std.specs.Prelude.{Result, Ok, Err}
use Rattle.exact.proofs.Numbers.{length_from}
use Rattle.rules.specs.declared.Refusal.{Refusal}
use Rattle.rules.specs.Plan.{Plan, columns, runs, every_run}
use Rattle.rules.specs.Refusals.{Check, refusal, answered, plan_checks}
use Rattle.plan.proofs.Checks.{passed-good}
use Rattle.plan.proofs.Sound.{good-sound}
use Rattle.compare.specs.declared.routines.Side.{Side}
use Rattle.compare.specs.Compare.{refusal_of, pattern_of, verdict_of, comparison_beside, compare_answer}
use Rattle.compare.specs.Given.{side_pattern, compare_sides, OfWords, Sided, SideOf, side, whole_side}
use Rattle.compare.proofs.OfPlan.{pattern-words, words-given}

module _ {p : Plan} {rs : List ℕ} {x : Side} (S : SideOf p rs x) where
  of-words : OfWords x
  of-words = record {
    words = rw (S.runs-are, S.words_are) (words-given p rs S.sound S.some);
    few = rw S.columns-are S.sound.columns-high;
  }

  pattern-in : side_pattern x ≡ pattern_of p rs
  pattern-in = rw (S.runs-are, S.columns-are, S.words_are) (sym (pattern-words p rs S.sound))

-- an answer whose side stands for the runs rs of plan p, where it is one
pub record Standing (p : Plan) (rs : List ℕ) (r : Refusal) (a : Result Side Refusal) : Type 0 where
  pub side : Side
  pub is : a ≡ answered r side
  pub stands : r.number ≡ 0 → SideOf p rs side

module _ {p : Plan} {rs : List ℕ} {r : Refusal} {a : Result Side Refusal} (A : Standing p rs r a) where
  pub standing-sided : Sided a
  standing-sided = rw A.is (go (eqb r.number 0) refl)
    where
      go : (i : Bool) → eqb r.number 0 ≡ i → Sided (cond (not i) (Err r) (Ok A.side))
      go true e = of-words (A.stands (eqb-true r.number 0 e))
      go false e = tt

  module _ {q : Plan} {ss : List ℕ} {s : Refusal} {b : Result Side Refusal} (B : Standing q ss s b) where
    sides : compare_sides a b ≡ comparison_beside r s (verdict_of (columns p) (pattern_of p rs) (columns q) (pattern_of q ss))
    sides = rw (A.is, B.is) (go (eqb r.number 0) (eqb s.number 0) refl refl)
      where
        verdict : r.number ≡ 0 → s.number ≡ 0 →
            verdict_of A.side.columns (side_pattern A.side) B.side.columns (side_pattern B.side)
            ≡ verdict_of (columns p) (pattern_of p rs) (columns q) (pattern_of q ss)
        verdict y z = rw (pattern-in (A.stands y), pattern-in (B.stands z), (A.stands y).columns-are, (B.stands z).columns-are)

        go : (i j : Bool) → eqb r.number 0 ≡ i → eqb s.number 0 ≡ j →
            compare_sides (cond (not i) (Err r) (Ok A.side)) (cond (not j) (Err s) (Ok B.side))
            ≡ cond (not i) (refusal_of 1 r) (cond (not j) (refusal_of 2 s) (Ok (verdict_of (columns p) (pattern_of p rs) (columns q) (pattern_of q ss))))
        go false j d e = refl
        go true false d e = refl
        go true true d e = ap Ok (verdict (eqb-true r.number 0 d) (eqb-true s.number 0 e))

    pub sides-compared : (start start_other : List Check → List Check) → refusal (start []) ≡ r → refusal (start_other []) ≡ s →
        compare_sides a b ≡ compare_answer start p rs start_other q ss
    unfolding compare_answer
    sides-compared start start_other begins other_begins = rw (begins, other_begins) sides

-- all runs of a plan
pub whole : (p : Plan) {a : Result Side Refusal} → a ≡ whole_side p → Standing p (every_run p) (refusal (plan_checks p)) a
unfolding whole_side
whole p e = record {
  side = side p (every_run p);
  is = e;
  stands = λ z.
      let G = passed-good p refl z in
      record {
        sound = good-sound p G;
        some = rw (length_from 0 (runs p)) G.runs-low;
        columns-are = refl;
        runs-are = refl;
        words_are = refl;
      };
}
