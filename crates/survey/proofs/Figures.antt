-- Worked figures of one table: 0 0, 0 2, 1 0, 0 2, in columns of two and three levels. Level 1 of column 1 never occurs, and run 3 repeats run 1.
use Rattle.exact.proofs.Ground.{true, false, Bool, List, [], ◌∷◌, map, ◌≡◌, refl, ℕ}
use Rattle.exact.specs.Lists.{from}
use Rattle.rules.specs.Plan.{Plan, plan, level, every_column, every_run}
use Rattle.rules.specs.Refusals.{of_plan, refusal_in, first_bad_level, first_bad_entry}
use Rattle.survey.specs.Survey.{occurs, alike, first_alike, occurs_answer, alike_answer}

abbrev made : Plan
made = plan (2 ∷ 3 ∷ []) (0 ∷ 0 ∷ 0 ∷ 2 ∷ 1 ∷ 0 ∷ 0 ∷ 2 ∷ [])

-- column by column, whether each level occurs
abbrev occurring : List ℕ → List (List Bool)
occurring rs = map (λ i. map (occurs made rs i) (from 0 (level made i))) (every_column made)

level-absent : occurring (every_run made) ≡ (true ∷ true ∷ []) ∷ (true ∷ false ∷ true ∷ []) ∷ []
unfolding occurs
level-absent = refl

-- without the run that alone has it, level 1 of column 0 is absent too
levels-absent : occurring (0 ∷ 1 ∷ 3 ∷ []) ≡ (true ∷ false ∷ []) ∷ (true ∷ false ∷ true ∷ []) ∷ []
unfolding occurs
levels-absent = refl

-- run by run, the first that is alike
run-repeated : map (first_alike made (every_run made)) (every_run made) ≡ 0 ∷ 1 ∷ 2 ∷ 1 ∷ []
unfolding alike first_alike
run-repeated = refl

-- without run 1 none is repeated
none-repeated : map (first_alike made (0 ∷ 2 ∷ 3 ∷ [])) (0 ∷ 2 ∷ 3 ∷ []) ≡ 0 ∷ 2 ∷ 3 ∷ []
unfolding alike first_alike
none-repeated = refl

-- the number of the refusal where a column and a level are asked, and where a run is
abbrev ask_level : Plan → ℕ → ℕ → ℕ
ask_level p i e = (refusal_in (occurs_answer p (every_run p) (of_plan p) i e)).number

abbrev ask_run : Plan → ℕ → ℕ
ask_run p f = (refusal_in (alike_answer p (every_run p) (of_plan p) f)).number

out_of_range : ask_level made 2 0 ∷ ask_level made 1 3 ∷ ask_level made 1 2 ∷ ask_run made 4 ∷ ask_run made 3 ∷ [] ≡ 8 ∷ 8 ∷ 0 ∷ 8 ∷ 0 ∷ []
unfolding occurs_answer alike_answer first_bad_level first_bad_entry
out_of_range = refl

-- a table that is refused is refused first
table-first : ask_level (plan (2 ∷ []) (2 ∷ [])) 1 0 ∷ ask_run (plan (2 ∷ []) (2 ∷ [])) 1 ∷ [] ≡ 5 ∷ 5 ∷ []
unfolding occurs_answer alike_answer first_bad_level first_bad_entry
table-first = refl
