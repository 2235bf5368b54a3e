-- How the exports for the tests write a history of calls as numbers.
use Rattle.std.specs.Prelude.{cond, List, map, ℕ, ◌/◌, ◌%◌, eqb}
use Rattle.rules.specs.Plan.{Plan}
use Rattle.held.specs.declared.Held.{Held}
use Rattle.held.specs.Held.{Call, strikes, reinstates, open_answer}
use Rattle.held.specs.History.{after}

-- 2f strikes run f, and 2f + 1 reinstates it
abbrev pub call_of : ℕ → Call
call_of x = cond (eqb (x % 2) 0) (strikes (x / 2)) (reinstates (x / 2))

-- the plan opened, and after the calls
unfoldable pub led : Plan → List ℕ → Held
led p history = after (open_answer p).held (map call_of history)
