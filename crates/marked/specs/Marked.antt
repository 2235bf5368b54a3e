-- What a C program hands over beside a plan: a mark for each run, 0 where it is struck; no marks where all runs stand.
use Rattle.std.specs.Prelude.{Bool, true, cond, not, ◌&&◌, List, [], ◌∷◌, map, ℕ, eqb, length, replicate}
use Rattle.rules.specs.Plan.{Plan, runs}
use Rattle.rules.specs.Refusals.{Check, check, of_plan, of_held}
use Rattle.held.specs.Held.{standing}

-- whether each run stands
abbrev pub marks_of : Plan → List ℕ → List Bool
marks_of p marks = cond (eqb (length marks) 0) (replicate (runs p) true) (map (λ b. not (eqb b 0)) marks)

-- the runs that stand, in number order
abbrev pub marked_runs : Plan → List ℕ → List ℕ
marked_runs p marks = standing (marks_of p marks)

-- whether there are marks, and not one for each run
abbrev pub miscounted : Plan → List ℕ → Bool
miscounted p marks = not (eqb (length marks) 0) && not (eqb (length marks) (runs p))

-- how a call begins: the checks of the plan; 8 where the marks are not as many as the runs, and 10 where no run stands, each ahead of
-- the call's own checks
abbrev pub of_marked : Plan → List ℕ → List Check → List Check
of_marked p marks checks = of_plan p (cond (miscounted p marks) (check 8 true ∷ []) (of_held (marked_runs p marks) checks))
