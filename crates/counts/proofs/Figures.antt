-- Worked figures: the strength of the listing's plan, with a level that never occurs, and with columns of one level.
use Rattle.exact.proofs.Ground.{List, [], ◌∷◌, map, ◌≡◌, refl, ℕ, replicate}
use Rattle.rules.specs.Plan.{Plan, plan, level, entry, every_run, every_column}
use Rattle.counts.specs.Counts.{even, balanced, strength}

record Figure : Type 0 where
  asked : Plan
  strong : ℕ

abbrev is : List ℕ → List ℕ → ℕ → Figure
is levels table t = record { asked = plan levels table; strong = t }

figures : List Figure
figures =
    -- runs 00 01 12
    is (2 ∷ 3 ∷ []) (0 ∷ 0 ∷ 0 ∷ 1 ∷ 1 ∷ 2 ∷ []) 0
    -- runs 0 1 of one column: level 2 never occurs and counts
    ∷ is (3 ∷ []) (0 ∷ 1 ∷ []) 0
    ∷ is (2 ∷ []) (0 ∷ 1 ∷ []) 1
    -- a column of one level beside others: runs 0000 0011 1001 1010, then 00 01, then 00 00
    ∷ is (2 ∷ 1 ∷ 2 ∷ 2 ∷ []) (0 ∷ 0 ∷ 0 ∷ 0 ∷ 0 ∷ 0 ∷ 1 ∷ 1 ∷ 1 ∷ 0 ∷ 0 ∷ 1 ∷ 1 ∷ 0 ∷ 1 ∷ 0 ∷ []) 2
    ∷ is (1 ∷ 2 ∷ []) (0 ∷ 0 ∷ 0 ∷ 1 ∷ []) 2
    ∷ is (1 ∷ 2 ∷ []) (0 ∷ 0 ∷ 0 ∷ 0 ∷ []) 0
    -- columns of one level alone, with one run
    ∷ is (1 ∷ 1 ∷ []) (0 ∷ 0 ∷ []) 2
    ∷ is (replicate 24 1) (replicate 24 0) 24
    ∷ []

found : Figure → ℕ
unfolding strength balanced even
found f = let p = f.asked in strength (level p) (entry p) (every_run p) (every_column p)

as-the-paper-says : map found figures ≡ map (λ f. f.strong) figures
unfolding found figures
as-the-paper-says = refl
