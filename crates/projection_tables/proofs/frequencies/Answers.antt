-- The routine is handed all runs of the plan.
use Rattle.exact.proofs.Ground.{List, ◌∙◌, sym, ap, refl, ℕ, length}
use Rattle.rules.specs.Plan.{plan, every_run}
use Rattle.rules.specs.Refusals.{Check, refusal, answered, plan_checks, of_plan}
use Rattle.rules.proofs.Answered.{left-early, ok-is, ok-accepted}
use Rattle.plan.proofs.Answers.{begun-good, plan-err}
use Rattle.plan.proofs.Checks.{plan-passed}
use Rattle.plan.proofs.Sound.{good-sound}
use Rattle.set_words.proofs.Answers.{good-tabled}
use Rattle.projection_tables.specs.Tables.{Line, rooms, rooms_beside, table_in, table_checks, table_answer, table_rooms}
use Rattle.projection_tables.proofs.Answers.{left-alone}
use Rattle.projection_tables.proofs.frequencies.Goals as goal

pub returns-in_err-runs : goal.returns-in_err-runs
unfolding table_answer table_rooms
returns-in_err-runs c =
    let a = c.args in
    let p = plan a.levels.now a.table.now in
    let rs = every_run p in
    let R = rooms a.nums.now a.dens.now a.counts.now in
    let ls = table_in a.relative p rs a.f in
    let checks = table_checks p rs a.relative a.f R in
    let w = plan-err p checks tt rs (length ls) c.in_err-runs.ensures in
    record { answer = left-early _ c.from_residual.ensures.1 w; rooms = left-alone ls R (refusal (of_plan p checks)) (length ls) w }

pub words_wanted-words-requires : goal.words_wanted-words-requires
words_wanted-words-requires c =
    let p = plan c.args.levels.now c.args.table.now in
    let w = c.in_ok-runs.ensures in
    rw (c.as_slice.ensures, ok-is (refusal (plan_checks p)) (every_run p) w) (good-sound p (begun-good p (every_run p) w))

pub table_answer-requires : goal.table_answer-requires
table_answer-requires c =
    let p = plan c.args.levels.now c.args.table.now in
    let w = c.in_ok-runs.ensures in
    let e = c.as_slice.ensures ∙ ok-is (refusal (plan_checks p)) (every_run p) w in
    rw (c.as_slice-2.ensures, ok-is (refusal (plan_checks p)) (every_run p) w)
    (record { tabled = good-tabled p (begun-good p (every_run p) w); of-runs = rw e at c.words_wanted-words.ensures })

pub returns : goal.returns
unfolding table_answer table_rooms
returns c =
    let a = c.args in
    let p = plan a.levels.now a.table.now in
    let R = rooms a.nums.now a.dens.now a.counts.now in
    let ls : List ℕ → List Line = λ rs. table_in a.relative p rs a.f in
    let checks : List ℕ → List Check = λ rs. table_checks p rs a.relative a.f R in
    let w = c.in_ok-runs.ensures in
    let e = c.as_slice-2.ensures ∙ ok-is (refusal (plan_checks p)) (every_run p) w in
    let d = plan-passed p (checks (every_run p)) tt refl (ok-accepted (refusal (plan_checks p)) (every_run p) w) in record {
      answer = c.table_answer.ensures.answer ∙ ap (λ rs. answered (refusal (checks rs)) (length (ls rs))) e
          ∙ ap (λ r. answered r (length (ls (every_run p)))) (sym d);
      rooms = c.table_answer.ensures.rooms ∙ ap (λ rs. rooms_beside (ls rs) R (refusal (checks rs))) e
          ∙ ap (rooms_beside (ls (every_run p)) R) (sym d);
    }
