-- A_0 is 1: no columns have the product 1, for each of the n² ordered pairs.
use Rattle.exact.proofs.Ground.{List, ◌≡◌, ◌∙◌, ap, refl, ℕ, ◌≤◌, ◌*◌, mul-pos, arith, pos, nat_abs, +ℤ_idr, length}
use Rattle.exact.specs.Fractions.{gcd, reduced}
use Rattle.exact.specs.declared.fractions.Fraction.{Fraction}
use Rattle.exact.proofs.Reduced.{reduced-same}
use Rattle.exact.proofs.Ring.{*-one}
use Rattle.exact.proofs.Sums.{sum-cong, sum-const}
use Rattle.words.specs.Words.{word_of, word}
use Rattle.compare.specs.Compare.{A}

one : Fraction
one = record { num = 1; den = 1 }

one-over-one : reduced 1 1 ≡ one
unfolding gcd reduced one
one-over-one = refl

module _ {R C : Type 0} (level : C → ℕ) (entry : R → C → ℕ) (rs : List R) (cols : List C) where
  word-zero : word level entry rs cols 0 ≡ pos (length rs * length rs)
  unfolding word word_of
  word-zero =
      +ℤ_idr _ ∙ sum-cong rs (λ f. sum-const rs (pos 1) ∙ *-one (pos (length rs))) ∙ sum-const rs (pos (length rs))

  pub A-zero : 1 ≤ length rs → reduced (A level entry rs cols 0).num (A level entry rs cols 0).den ≡ record { num = 1; den = 1 }
  unfolding A one
  A-zero some =
      let n = length rs in
      ap (λ w. reduced (nat_abs w) (n * n)) word-zero
      ∙ reduced-same (n * n) (n * n) 1 1 (mul-pos some some) (omega arith) (omega arith) ∙ one-over-one
