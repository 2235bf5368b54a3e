-- A loop that walks the marks and takes down the runs that stand.
use Rattle.exact.proofs.Ground.{true, false, Bool, List, [], ◌∷◌, ◌++◌, append-nil, ◌≡◌, ◌∙◌, sym, ℕ, ◌≤◌, ◌<◌, ◌+◌, arith, length, get_or, take}
use Rattle.exact.proofs.Ground.{length-take-le}
use Rattle.held.specs.Held.{standing}
use Rattle.held.proofs.Standing.{standing-within, one_more}

module _ (marks : List Bool) (f : ℕ) (h : f < length marks) where
  pub walk-room : length (standing (take f marks)) ≤ f
  walk-room = omega (arith, standing-within (take f marks), length-take-le f marks (let l : f ≤ length marks = omega arith in l))

  pub walk-stands : get_or marks f false ≡ true → standing (take f marks) ++ f ∷ [] ≡ standing (take (f + 1) marks)
  walk-stands e = sym (one_more marks f true h e)

  pub walk-struck : get_or marks f false ≡ false → standing (take f marks) ≡ standing (take (f + 1) marks)
  walk-struck e = sym (one_more marks f false h e ∙ append-nil (standing (take f marks)))
