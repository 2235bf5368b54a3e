-- The resolution is the smallest length from 1 whose word is above zero, and the search over the list of words finds it.
use Rattle.exact.proofs.Ground.{Bool, List, ◌≡◌, ◌∙◌, sym, ap, refl, ℕ, ◌≤◌, ◌<◌, ◌+◌, suc, zero, arith, pos, length, lt_z}
use Rattle.exact.specs.Lists.{first}
use Rattle.exact.proofs.Numbers.{length_from}
use Rattle.exact.proofs.Searches.{IsFirst, first-is, first-unique}
use Rattle.rules.specs.Plan.{Plan, columns, level, entry, every_column, most_columns}
use Rattle.words.specs.Words.{word}
use Rattle.words.specs.Answers.{word_list}
use Rattle.words.proofs.Answered.{word_at}
use Rattle.resolution.specs.Resolution.{resolution, resolution_in}
use Rattle.resolution.specs.Properties.{IsResolution}
use Rattle.resolution.specs.Given.{is_above, first_above}

module _ {R C : Type 0} (level : C → ℕ) (entry : R → C → ℕ) (rs : List R) (cols : List C) where
  pub resolution-is : IsResolution level entry rs cols (resolution level entry rs cols)
  unfolding resolution
  resolution-is =
      let F = first-is (λ j. lt_z (pos 0) (word level entry rs cols j)) 1 (length cols) in
      record { low = F.from-a; high = omega (arith, F.within); above_zero = λ h. F.passes (omega arith); least = F.none_before }

  pub resolution-unique : (r s : ℕ) → IsResolution level entry rs cols r → IsResolution level entry rs cols s → r ≡ s
  resolution-unique r s I J = first-unique (λ j. lt_z (pos 0) (word level entry rs cols j)) 1 (length cols) r s (is r I) (is s J)
    where
      is : (r : ℕ) → IsResolution level entry rs cols r → IsFirst (λ j. lt_z (pos 0) (word level entry rs cols j)) 1 (length cols) r
      is r I = record { from-a = I.low; within = omega (arith, I.high); passes = λ h. I.above_zero (omega arith); none_before = I.least }

-- tests that agree have the same first number
first_cong : (f g : ℕ → Bool) (a n : ℕ) → ((j : ℕ) → a ≤ j → j < a + n → f j ≡ g j) → first f a n ≡ first g a n
first_cong f g a zero h = refl
first_cong f g a (suc n) h = rw (h a (omega arith) (omega arith), first_cong f g (suc a) n (λ j l k. h j (omega arith) (omega arith)))

module _ (p : Plan) (rs : List ℕ) where
  pub resolution-words : columns p ≤ most_columns → first_above (word_list p rs) (columns p) ≡ resolution_in p rs
  unfolding resolution
  resolution-words h =
      first_cong (is_above (word_list p rs)) (λ j. lt_z (pos 0) (word (level p) (entry p) rs (every_column p) j)) 1 (columns p)
      (λ j l k. ap (lt_z (pos 0)) (word_at p rs j l (omega arith)))
      ∙ ap (first (λ j. lt_z (pos 0) (word (level p) (entry p) rs (every_column p) j)) 1) (sym (length_from 0 (columns p)))
