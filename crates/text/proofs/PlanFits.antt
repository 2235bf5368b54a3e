-- A plan that was read fits its rooms.
use Rattle.exact.proofs.Ground.{List, ◌≡◌, ℕ, ◌≤◌, ◌*◌, mul-le-mul, length}
use Rattle.std.specs.Prelude.{Ok}
use Rattle.rules.specs.Plan.{columns, runs, most_columns, most_runs}
use Rattle.rules.proofs.Answered.{ok-accepted, ok-is}
use Rattle.text.specs.declared.Sizes.{Sizes}
use Rattle.text.specs.Text.{plan_of}
use Rattle.text.specs.Reader.{read_refusal, read_answer, sizes}
use Rattle.text.proofs.InFront.{read-accepted}

-- no more columns than 24, and no more entries than those of 256 runs
pub plan-fits : (text levels table : List ℕ) {r : Sizes} → Ok r ≡ read_answer text levels table →
    (r.columns ≤ most_columns) × (r.runs * r.columns ≤ most_runs * most_columns)
plan-fits text levels table e =
    let R = read_refusal text (length levels) (length table) in
    let G = (read-accepted text (length levels) (length table) (ok-accepted R (sizes (plan_of text)) e)).good in
    rw (ok-is R (sizes (plan_of text)) e) (G.columns-high, mul-le-mul G.runs-high G.columns-high)
