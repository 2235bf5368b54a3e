-- No table has more lines than its rooms have places.
use Rattle.std.proofs.Common.{◌≡◌, Bool, List, ℕ, ◌≤◌, replicate, sym, refl}
use Rattle.std.specs.Prelude.{Result, Ok, Err, IfOk}
use Rattle.rules.specs.declared.Refusal.{Refusal}
use Rattle.rules.specs.Plan.{Plan, every_run}
use Rattle.rules.specs.Refusals.{of_plan}
use Rattle.projection_tables.specs.Tables.{rooms, table_answer}
use Rattle.projection_tables.proofs.Answers.{plan-lines-fit}

abbrev room : List ℕ
room = replicate 64 0

pub in-rooms : (p : Plan) (relative : Bool) (f : ℕ) (answer : Result ℕ Refusal) →
    answer ≡ table_answer p (every_run p) (of_plan p) relative f (rooms room room room) → IfOk answer (λ lines. lines ≤ 64)
in-rooms p relative f (Ok lines) e = plan-lines-fit p (every_run p) relative f (rooms room room room) e
in-rooms p relative f (Err r) e = tt
