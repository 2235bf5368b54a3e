-- Document 01, "Strength, resolution, projections": W(I) of one set of columns, and its values (source document 000).
use Rattle.std.specs.Prelude.{Bool, cond, List, [], ◌∷◌, map, ℕ, ◌*◌, ◌-◌, nat_abs, length, ℤ, Result}
use Rattle.exact.specs.Lists.{smallest, holds}
use Rattle.exact.specs.Fractions.{zero_fraction, reduced}
use Rattle.exact.specs.declared.fractions.Fraction.{Fraction}
use Rattle.rules.specs.Plan.{Plan, columns, level, entry}
use Rattle.rules.specs.declared.Refusal.{Refusal}
use Rattle.rules.specs.Refusals.{Check, refusal, answered, bad_size, bad_set}
use Rattle.words.specs.Words.{word_of}

-- ---- values of a set of columns

module _ {R C : Type 0} (level : C → ℕ) (entry : R → C → ℕ) (rs : List R) where
  -- W(I) / n², reduced (W(I) is never negative)
  unfoldable pub value_of : List C → Fraction
  value_of I = reduced (nat_abs (word_of level entry rs I)) (length rs * length rs)

  -- W(I) / (n²(s - 1)), reduced, s being the smallest level in I; 0/1, with no division, where I holds a column of one level
  unfoldable pub relative_of : List C → Fraction
  relative_of I =
      let s = smallest (map level I) in
      cond (holds 1 (map level I)) zero_fraction (reduced (nat_abs (word_of level entry rs I)) (length rs * length rs * (s - 1)))

-- the value of a set in the table that is asked for, relative or not
abbrev pub value_in : Bool → Plan → List ℕ → List ℕ → Fraction
value_in relative p rs I = cond relative (relative_of (level p) (entry p) rs I) (value_of (level p) (entry p) rs I)

-- ---- W(I) of one set of f columns

abbrev pub set_word_checks : Plan → ℕ → List ℕ → List Check
set_word_checks p f I = bad_size (columns p) f ∷ bad_set (columns p) f I ∷ []

-- of the runs rs of a plan
module _ (p : Plan) (rs : List ℕ) where
  -- W(I), or the refusal
  unfoldable pub set_word_answer : (List Check → List Check) → ℕ → List ℕ → Result ℤ Refusal
  set_word_answer start f I = answered (refusal (start (set_word_checks p f I))) (word_of (level p) (entry p) rs I)
