-- The call: whether the runs tell column a from the columns J acting together, with the groups and the links.
use Rattle.std.specs.Prelude.{not, ◌&&◌, Result, List, [], ◌∷◌, ℕ, ltb}
use Rattle.exact.specs.Lists.{holds}
use Rattle.rules.specs.declared.Refusal.{Refusal}
use Rattle.rules.specs.Plan.{Plan, columns, entry}
use Rattle.rules.specs.Refusals.{Check, check, refusal, answered, is_set}
use Rattle.tell.specs.declared.Told.{Told}
use Rattle.tell.specs.Evidence.{tells, most_groups, evidence}

-- 8: a is not one of the m columns, or J are not columns of the m, rising, or a is among them
abbrev pub bad_asked : ℕ → ℕ → List ℕ → Check
bad_asked m a J = check 8 (not (ltb a m && (is_set m J && not (holds a J))))

abbrev pub tell_checks : Plan → ℕ → List ℕ → List Check
tell_checks p a J = bad_asked (columns p) a J ∷ []

-- of the runs rs of a plan
module _ (p : Plan) (rs : List ℕ) where
  -- whether they tell, with the evidence
  abbrev pub told : ℕ → List ℕ → Told
  told a J = record { tells = tells (entry p) a J most_groups rs; joins = evidence p rs a J }

  unfoldable pub tell_answer : (List Check → List Check) → ℕ → List ℕ → Result Told Refusal
  tell_answer start a J = answered (refusal (start (tell_checks p a J))) (told a J)
