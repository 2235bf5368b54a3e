-- The numbers of the standing runs rise.
use Rattle.exact.proofs.Ground.{true, false, Bool, List, [], ◌∷◌, ℕ, suc, arith}
use Rattle.advice.specs.Given.{Rising}
use Rattle.held.specs.Held.{standing_from, standing}
use Rattle.held.proofs.Standing.{marked_from}

rises-from : (a : ℕ) (marks : List Bool) → Rising (standing_from a marks)
rises-from a [] = tt
rises-from a (true ∷ marks) =
    (λ f m. let (k, e, d) = marked_from (suc a) marks f m in omega arith, rises-from (suc a) marks)
rises-from a (false ∷ marks) = rises-from (suc a) marks

pub rises : (marks : List Bool) → Rising (standing marks)
unfolding standing
rises marks = rises-from 0 marks
