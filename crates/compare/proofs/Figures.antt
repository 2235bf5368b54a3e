-- Document 01, "Words" and "Refusal numbers": comparisons of the listing's plan with others, from the definitions.
use Rattle.exact.proofs.Ground.{List, [], ◌∷◌, map, ◌≡◌, refl, ℕ}
use Rattle.std.specs.Prelude.{Option, None, Some}
use Rattle.exact.specs.Fractions.{smaller_fraction}
use Rattle.exact.specs.declared.fractions.Verdict.{Verdict}
use Rattle.exact.specs.declared.fractions.Verdict.TheVariants.{Better, Worse, Equal}
use Rattle.rules.specs.Plan.{Plan, plan}
use Rattle.rules.specs.declared.Refusal.{Refusal}
use Rattle.rules.specs.Refusals.{accepted, plain, first_bad_level, first_bad_entry}
use Rattle.words.specs.Words.{score, word_of, word}
use Rattle.compare.specs.Compare.{Says, comparison_says, A, pattern, compare_patterns, compare_answer, compare_plans}

record Figure : Type 0 where
  first : Plan
  second : Plan
  answer : Says

-- compared, not comparable, or the plan of this number is refused
abbrev is : Plan → Plan → Option Verdict → Figure
is p q v = record { first = p; second = q; answer = record { refused = accepted; plan = 0; verdict = v } }

abbrev refuses : Plan → Plan → ℕ → Refusal → Figure
refuses p q k r = record { first = p; second = q; answer = record { refused = r; plan = k; verdict = None } }

-- levels 2,3 and the runs 00 01 12; then without run 0, and without run 2: W = 1, 8 and 2, 6 and 6, 2
abbrev listed : Plan
listed = plan (2 ∷ 3 ∷ []) (0 ∷ 0 ∷ 0 ∷ 1 ∷ 1 ∷ 2 ∷ [])

abbrev without-0 : Plan
without-0 = plan (2 ∷ 3 ∷ []) (0 ∷ 1 ∷ 1 ∷ 2 ∷ [])

abbrev without-2 : Plan
without-2 = plan (2 ∷ 3 ∷ []) (0 ∷ 0 ∷ 0 ∷ 1 ∷ [])

abbrev refused : Plan
refused = plan [] []

figures : List Figure
figures =
    -- 1/9 against 2/4, and 2/4 against 6/4: the numbers of runs may differ
    is listed without-0 (Some Better)
    ∷ is without-2 without-0 (Some Worse)
    ∷ is listed listed (Some Equal)
    -- two columns against one
    ∷ is listed (plan (2 ∷ []) (0 ∷ 1 ∷ [])) None
    -- the first is checked entirely, then the second
    ∷ refuses refused (plan (1 ∷ []) []) 1 (plain 1)
    ∷ refuses listed refused 2 (plain 1)
    ∷ []

compare-figures : map (λ x. comparison_says (compare_plans x.first x.second)) figures ≡ map (λ x. x.answer) figures
unfolding figures first_bad_level first_bad_entry smaller_fraction score word_of word A pattern compare_patterns compare_answer
compare-figures = refl
