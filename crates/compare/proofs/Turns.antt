-- A loop over the lengths: each is of words, and its fractions are short.
use Rattle.exact.proofs.Ground.{List, [], ◌∷◌, map, ◌≡◌, sym, refl, subst, ℕ, ◌≤◌, ◌<◌, suc, mul-pos, arith, pos, ℤ, length, get_or, take}
use Rattle.exact.proofs.Ground.{length-take-le, get_or-take}
use Rattle.exact.specs.Fractions.{then, smaller_fraction, ShortDenominator}
use Rattle.exact.specs.declared.fractions.Verdict.{Verdict}
use Rattle.exact.specs.declared.fractions.Verdict.TheVariants.{Equal}
use Rattle.exact.proofs.Numbers.{mul-below}
use Rattle.rules.specs.Plan.{most_columns}
use Rattle.compare.specs.Compare.{over, compare_patterns}
use Rattle.compare.specs.Given.{WordOf, WordsOf}

-- the denominator of a word is short
pub over-short : (n : ℕ) (w : ℤ) → WordOf n w → ShortDenominator (over n w)
over-short n w W = record {
  above_zero = mul-pos W.some W.some;
  short = omega (arith, mul-below n n 256 256 W.few W.few);
}

-- scaled words of n runs, as many as there are
pub record Words (n : ℕ) (words : List ℤ) : Type 0 where
  pub each : (j : ℕ) → j < length words → WordOf n (get_or words j (pos 0))

pub first-words : (n m : ℕ) (words : List ℤ) → m ≤ most_columns → WordsOf n words → Words n (take m words)
first-words n m words h W = record {
  each = λ j l.
      let k : j < m = omega (arith, length-take-le m words (let r : m ≤ length words = omega (arith, W.long) in r)) in
      subst (WordOf n) (sym (get_or-take m words j (pos 0) k)) (W.each j);
}

module _ {n : ℕ} {words rest : List ℤ} {word : ℤ} (e : words ≡ word ∷ rest) (W : Words n words) where
  pub present-word : WordOf n word
  present-word = (subst (Words n) e W).each 0 (omega arith)

  pub later-words : Words n rest
  later-words = record { each = λ j h. (subst (Words n) e W).each (suc j) (omega arith) }

-- the words of the present length decide, and where these are equal the later ones
pub present-turn : (n k : ℕ) {xs xs' ys ys' : List ℤ} {x y : ℤ} {v all : Verdict} → xs ≡ x ∷ xs' → ys ≡ y ∷ ys' →
    v ≡ smaller_fraction (over n x) (over k y) → compare_patterns (map (over n) xs) (map (over k) ys) ≡ all →
    then v (compare_patterns (map (over n) xs') (map (over k) ys')) ≡ all
unfolding compare_patterns
present-turn n k e f g d = rw g (rw (e, f) at d)

-- where no length is left, none decides
module _ (n k : ℕ) where
  pub first-none : (xs ys : List ℤ) → length xs ≡ 0 → compare_patterns (map (over n) xs) (map (over k) ys) ≡ Equal
  unfolding compare_patterns
  first-none [] ys e = refl
  first-none (x ∷ xs) ys e = absurd (omega arith)

  pub second-none : (xs ys : List ℤ) → length ys ≡ 0 → compare_patterns (map (over n) xs) (map (over k) ys) ≡ Equal
  unfolding compare_patterns
  second-none [] ys e = refl
  second-none (x ∷ xs) [] e = refl
  second-none (x ∷ xs) (y ∷ ys) e = absurd (omega arith)
