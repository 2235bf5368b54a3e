-- Where no length is left, none has decided.
use Rattle.exact.proofs.Ground.{List, [], ◌∷◌, ⊎_elim, ◌≡◌, ◌∙◌, sym, ap, refl, ℤ, arith, length}
use Rattle.exact.specs.Fractions.{is_better}
use Rattle.exact.specs.declared.fractions.Verdict.TheVariants.{Equal}
use Rattle.advice.specs.Rows.{larger_row}
use Rattle.advice.proofs.routines.larger_row.Goals as goal

first_none : (xs ys : List ℤ) → length xs ≡ 0 → larger_row xs ys ≡ Equal
unfolding larger_row
first_none [] ys e = refl
first_none (x ∷ xs) ys e = absurd (omega arith)

second_none : (xs ys : List ℤ) → length ys ≡ 0 → larger_row xs ys ≡ Equal
unfolding larger_row
second_none [] ys e = refl
second_none (x ∷ xs) [] e = refl
second_none (x ∷ xs) (y ∷ ys) e = absurd (omega arith)

pub returns : goal.returns
returns c =
    ap is_better (sym (⊎_elim (λ u. first_none _ _ u.1.0) (λ u. second_none _ _ u.1.0) c.in-None.ensures.steps) ∙ c.loop-x.invariant)
