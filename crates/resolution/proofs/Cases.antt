-- Which case a column's figure is: clear exactly in a refusal and where the column's largest ratio is zero, and else the ratio's f64.
use Rattle.exact.proofs.Ground.{true, false, Bool, cond, ◌||◌, List, ◌≡◌, refl, ℕ, eqb, pos}
use Rattle.std.specs.Prelude.{Some, None, Ok, Err}
use lib.Ieee.{Float}
use Rattle.rules.specs.Plan.{Plan}
use Rattle.rules.specs.declared.Refusal.{Refusal}
use Rattle.rules.specs.Refusals.{Check, refusal, refuses}
use Rattle.resolution.specs.Charts.{quotient, figure_says, column_ratio, column_checks, figure_answer}

module _ (p : Plan) (rs : List ℕ) (start : List Check → List Check) (i : ℕ) where
  pub figure-says :
      let x = column_ratio p rs i in
      let clear = refuses (refusal (start (column_checks p rs i))) || eqb x.num 0 in
      figure_says (figure_answer p rs start i) ≡ cond clear None (Some (quotient (pos x.num) x.den))
  unfolding figure_answer
  figure-says =
      let x = column_ratio p rs i in
      let r = refusal (start (column_checks p rs i)) in
      go r (refuses r) (eqb x.num 0) (quotient (pos x.num) x.den)
    where
      go : (r : Refusal) (refused zero : Bool) (y : Float) →
          figure_says (cond refused (Err r) (Ok (cond zero None (Some y)))) ≡ cond (refused || zero) None (Some y)
      go r true zero y = refl
      go r false true y = refl
      go r false false y = refl
