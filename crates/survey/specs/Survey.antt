-- Document 01, "Sizes": a level that never occurs still counts, and repeated runs are allowed. This is which levels and runs those are.
use Rattle.std.specs.Prelude.{Bool, List, [], ◌∷◌, map, ℕ, eqb, get_or, Result}
use Rattle.exact.specs.Lists.{all, keep, holds}
use Rattle.rules.specs.Plan.{Plan, columns, runs, level, entry, every_column}
use Rattle.rules.specs.declared.Refusal.{Refusal}
use Rattle.rules.specs.Refusals.{Check, refusal, answered, bad_place}

module _ (p : Plan) where
  -- whether level e occurs in column i: some run has that entry
  unfoldable pub occurs : List ℕ → ℕ → ℕ → Bool
  occurs rs i e = holds e (map (λ f. entry p f i) rs)

  -- whether two runs have the same entry in every column
  unfoldable pub alike : ℕ → ℕ → Bool
  alike f g = all (every_column p) (λ i. eqb (entry p f i) (entry p g i))

  -- the first of the runs with the same entries as run f, and f where none has them. Run f is repeated where that is an earlier one
  unfoldable pub first_alike : List ℕ → ℕ → ℕ
  first_alike rs f = get_or (keep (alike f) rs) 0 f

  -- what is answered of column i and its level e
  unfoldable pub occurs_answer : List ℕ → (List Check → List Check) → ℕ → ℕ → Result Bool Refusal
  occurs_answer rs start i e = answered (refusal (start (bad_place (columns p) i ∷ bad_place (level p i) e ∷ []))) (occurs rs i e)

  -- what is answered of run f
  unfoldable pub alike_answer : List ℕ → (List Check → List Check) → ℕ → Result ℕ Refusal
  alike_answer rs start f = answered (refusal (start (bad_place (runs p) f ∷ []))) (first_alike rs f)
